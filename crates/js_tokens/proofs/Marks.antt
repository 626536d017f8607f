-- The longest punctuator in front.
use Rattle.std.proofs.Common.{◌≡◌, ◌≢◌, ℕ, zero, suc, ◌≤◌, ◌<◌, Bool, true, false, ◌&&◌, ◌||◌, ◌==◌, List, [], ◌∷◌, length, take, get_or, refl, sym, ◌∙◌, ap, arith, nat_le, ◌⊎◌, inl, inr, Option, None, Some, slice_get}
use Rattle.std.specs.Prelude.{not}
use Rattle.std.specs.List.{list_all}
use Rattle.std.proofs.lemmas.Bool.{eqb-true}
use Rattle.std.proofs.lemmas.Grind.{common_steps}
use Rattle.std.proofs.lemmas.List.{length-take-le, length-take}
use Rattle.mug_text.specs.Characters.{is_digit}
use Rattle.js_tokens.specs.Units.{is_start, is_part, is_quote, begins, opens}
use Rattle.js_tokens.specs.Words.{spelling, is_word}
use Rattle.js_tokens.specs.Tokens.{is_name, Stands, NoneStands}
use Rattle.js_tokens.specs.declared.word.TheConstants.{PUNCTUATORS}
use Rattle.js_tokens.specs.declared.word.Word.{Word}
use Rattle.js_tokens.specs.declared.word.Word.TheVariants.{Name}
use Rattle.js_tokens.specs.declared.token.TokenKind.{TokenKind}
use Rattle.js_tokens.specs.declared.token.TokenKind.TheVariants as kind
use Rattle.js_tokens.proofs.Runs.{and_left, and_right, and_both}
use Rattle.js_tokens.proofs.Opens.{word_is, opens_of, opens_is}
use Rattle.js_tokens.proofs.Fronts.{clash, front, stands_pos, begins_take}

-- a word that is no name and has a text is among the punctuators
mark_row : (v : Word) → list_all (λ w. not (is_word (spelling v) (spelling w))) PUNCTUATORS ≡ (is_name (spelling v) || (length (spelling v) == 0))
mark_row Name = refl
mark_row v = refl

marks : (v : Word) → is_name (spelling v) ≡ false → 0 < length (spelling v) → list_all (λ w. not (is_word (spelling v) (spelling w))) PUNCTUATORS ≡ true → ⊥
marks v a b h = by (is_name (spelling v)) a (sym (mark_row v) ∙ h)
  where
    by : (x : Bool) → x ≡ false → (x || (length (spelling v) == 0)) ≡ true → ⊥
    by true e g = cc e
    by false e g = omega (arith, b, eqb-true (length (spelling v)) 0 g)

absent_one : (b : Bool) → (b ≡ true → ⊥) → not b ≡ true
absent_one true f = absurd (f refl)
absent_one false f = refl

-- a word is not in a list of which each member differs from it
absent : (v : Word) (q : Word → Bool) → ((x : Word) → q x ≡ true → spelling v ≡ spelling x → ⊥) → (xs : List Word) → list_all q xs ≡ true → list_all (λ w. not (is_word (spelling v) (spelling w))) xs ≡ true
absent v q f [] h = refl
absent v q f (x ∷ xs) h =
    and_both _ _ (absent_one (is_word (spelling v) (spelling x)) (λ e. f x (and_left (q x) _ h) (word_is (spelling v) (spelling x) (eqb-true (length (spelling v)) (length (spelling x)) (and_left _ _ e)) (and_right (length (spelling v) == length (spelling x)) _ e))))
    (absent v q f xs (and_right (q x) _ h))

-- each word is at least as long as those behind it
abbrev descending : List Word → Bool
descending [] = true
descending (x ∷ xs) = list_all (λ v. nat_le (length (spelling v)) (length (spelling x))) xs && descending xs

or_right : (a b : Bool) → b ≡ true → (a || b) ≡ true
or_right true b h = refl
or_right false b h = h

or_front : (a b : Bool) → a ≡ true → (a || b) ≡ true
or_front true b h = refl
or_front false b h = cc

weaker : (us : List ℕ) (n : ℕ) (xs : List Word) → list_all (λ v. nat_le (length (spelling v)) n) xs ≡ true → list_all (λ v. not (opens us (spelling v)) || nat_le (length (spelling v)) n) xs ≡ true
weaker us n [] h = refl
weaker us n (x ∷ xs) h = and_both _ _ (or_right (not (opens us (spelling x))) _ (and_left (nat_le (length (spelling x)) n) _ h)) (weaker us n xs (and_right (nat_le (length (spelling x)) n) _ h))

le_self : (n : ℕ) → nat_le n n ≡ true
le_self n = grind (arith, common_steps)

le_true : (m n : ℕ) → nat_le m n ≡ true → m ≤ n
le_true m n h = grind (arith, common_steps)

longest_in : (us : List ℕ) (xs : List Word) (k : ℕ) (d : Word) → descending xs ≡ true → k < length xs → list_all (λ v. not (opens us (spelling v))) (take k xs) ≡ true →
    list_all (λ v. not (opens us (spelling v)) || nat_le (length (spelling v)) (length (spelling (get_or xs k d)))) xs ≡ true
longest_in us [] k d s l h = absurd (omega arith)
longest_in us (x ∷ xs) zero d s l h =
    and_both _ _ (or_right (not (opens us (spelling x))) _ (le_self (length (spelling x)))) (weaker us (length (spelling x)) xs (and_left (list_all (λ v. nat_le (length (spelling v)) (length (spelling x))) xs) _ s))
longest_in us (x ∷ xs) (suc k) d s l h =
    and_both _ _ (or_front (not (opens us (spelling x))) _ (and_left (not (opens us (spelling x))) _ h)) (longest_in us xs k d (and_right (list_all (λ v. nat_le (length (spelling v)) (length (spelling x))) xs) _ s) (omega arith) (and_right (not (opens us (spelling x))) _ h))

stands_opens : (us : List ℕ) (v : Word) (n : ℕ) → n ≤ length us → take n us ≡ spelling v → (length (spelling v) ≡ n) × (opens us (spelling v) ≡ true)
stands_opens us v n h c =
    let e : length (spelling v) ≡ n = ap length (sym c) ∙ length-take-le n us h in
    (e, opens_of us (spelling v) (ap (λ k. take k us) e ∙ c))

not_true : (b : Bool) → not b ≡ true → b ≡ true → ⊥
not_true true h g = cc h
not_true false h g = cc g

pub mark_none : (us : List ℕ) → begins is_start us ≡ false → begins is_digit us ≡ false → begins is_quote us ≡ false → list_all (λ w. not (opens us (spelling w))) PUNCTUATORS ≡ true → NoneStands us
mark_none us s d q h (kind.Name t) w n x = clash _ (front (kind.Name t) w us n x) s
mark_none us s d q h (kind.Reserved t) w n x = clash _ (front (kind.Reserved t) w us n x) s
mark_none us s d q h (kind.Number z) w n x = clash _ (front (kind.Number z) w us n x) d
mark_none us s d q h (kind.Text t) w n x = clash _ (front (kind.Text t) w us n x) q
mark_none us s d q h (kind.Punctuator t) w n x =
    let c = x.1.2 in
    let (e, o) = stands_opens us w n x.0 c in
    let p = stands_pos (kind.Punctuator t) w us n x in
    marks w (ap is_name (sym c) ∙ x.1.0) (omega arith) (absent w (λ v. not (opens us (spelling v))) (λ v g f. not_true (opens us (spelling v)) g (ap (opens us) (sym f) ∙ o)) PUNCTUATORS h)

or_not : (a b : Bool) → (not a || b) ≡ true → a ≡ true → b ≡ true
or_not true b h g = h
or_not false b h g = cc g

pub mark_longest : (us : List ℕ) (k : ℕ) (d : Word) → begins is_start us ≡ false → begins is_digit us ≡ false → begins is_quote us ≡ false → k < length PUNCTUATORS → list_all (λ w. not (opens us (spelling w))) (take k PUNCTUATORS) ≡ true →
    (j : TokenKind) (w : Word) (n : ℕ) → Stands j w us n → n ≤ length (spelling (get_or PUNCTUATORS k d))
mark_longest us k d s g q l h (kind.Name t) w n x = absurd (clash _ (front (kind.Name t) w us n x) s)
mark_longest us k d s g q l h (kind.Reserved t) w n x = absurd (clash _ (front (kind.Reserved t) w us n x) s)
mark_longest us k d s g q l h (kind.Number z) w n x = absurd (clash _ (front (kind.Number z) w us n x) g)
mark_longest us k d s g q l h (kind.Text t) w n x = absurd (clash _ (front (kind.Text t) w us n x) q)
mark_longest us k d s g q l h (kind.Punctuator t) w n x = by (below (length (spelling (get_or PUNCTUATORS k d))) n)
  where
    below : (a b : ℕ) → (b ≤ a) ⊎ (a < b)
    below a b = grind arith

    by : (n ≤ length (spelling (get_or PUNCTUATORS k d))) ⊎ (length (spelling (get_or PUNCTUATORS k d)) < n) → n ≤ length (spelling (get_or PUNCTUATORS k d))
    by (inl y) = y
    by (inr y) =
        let c = x.1.2 in
        let (e, o) = stands_opens us w n x.0 c in
        absurd (marks w (ap is_name (sym c) ∙ x.1.0) (omega arith) (absent w (λ v. not (opens us (spelling v)) || nat_le (length (spelling v)) (length (spelling (get_or PUNCTUATORS k d))))
        (λ v z f. omega (arith, y, e, ap length f, le_true _ _ (or_not (opens us (spelling v)) _ z (ap (opens us) (sym f) ∙ o)))) PUNCTUATORS (longest_in us PUNCTUATORS k d refl l h)))

-- each punctuator has a text
full : list_all (λ v. nat_le 1 (length (spelling v))) PUNCTUATORS ≡ true
full = refl

full_at : (xs : List Word) (k : ℕ) (w : Word) → list_all (λ v. nat_le 1 (length (spelling v))) xs ≡ true → slice_get xs k ≡ Some w → nat_le 1 (length (spelling w)) ≡ true
full_at [] k w h e = absurd (some_none w e)
  where
    some_none : (w : Word) → ◌≡◌ {A = Option Word} None (Some w) → ⊥
    some_none w e = cc e
full_at (x ∷ xs) zero w h e = ap (λ v. nat_le 1 (length (spelling v))) (sym (some_same x w e)) ∙ and_left (nat_le 1 (length (spelling x))) _ h
  where
    some_same : (x w : Word) → ◌≡◌ {A = Option Word} (Some x) (Some w) → x ≡ w
    some_same x w e = cc e
full_at (x ∷ xs) (suc k) w h e = full_at xs k w (and_right (nat_le 1 (length (spelling x))) _ h) e

no_start_name : (vs : List ℕ) → begins is_start vs ≡ false → is_name vs ≡ false
no_start_name vs h = ap (λ b. b && list_all is_part vs) h

pub mark_parts : (us : List ℕ) (k : ℕ) (w : Word) → begins is_start us ≡ false → k < length PUNCTUATORS → slice_get PUNCTUATORS k ≡ Some w → opens us (spelling w) ≡ true →
    (length (spelling w) ≤ length us) × (is_name (take (length (spelling w)) us) ≡ false) × (take (length (spelling w)) us ≢ []) × (take (length (spelling w)) us ≡ spelling w)
mark_parts us k w s l e o =
    let same : take (length (spelling w)) us ≡ spelling w = opens_is us (spelling w) o in
    let pos = le_true 1 (length (spelling w)) (full_at PUNCTUATORS k w full e) in
    let some : take (length (spelling w)) us ≢ [] = λ z. omega (arith, pos, ap length (sym same ∙ z)) in
    (omega (arith, ap length same, length-take (length (spelling w)) us), no_start_name (take (length (spelling w)) us) (sym (begins_take is_start us (length (spelling w)) some) ∙ s), some, same)
