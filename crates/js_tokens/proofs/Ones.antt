-- The same text has one list of tokens or one refusal.
use Rattle.std.proofs.Common.{◌≡◌, ℕ, ◌+◌, ◌-◌, ◌<◌, Bool, true, false, ◌||◌, List, [], ◌∷◌, length, take, drop, refl, sym, ◌∙◌, ap, subst, arith, if◌then◌else◌}
use Rattle.std.proofs.lemmas.Grind.{common_steps}
use Rattle.std.proofs.lemmas.List.{length-drop, length-take-le}
use Rattle.std.specs.List.{list_any}
use Rattle.mug_text.specs.Characters.{is_digit, is_line_end}
use Rattle.js_tokens.specs.Units.{is_start, is_quote, begins}
use Rattle.js_tokens.specs.Strings.{Inside}
use Rattle.js_tokens.specs.Gaps.{Gap, none, more, blank}
use Rattle.js_tokens.specs.Tokens.{Stands, Longest, NoneStands, IsNext, TokensFrom, ends, next, RefusedFrom, here, later}
use Rattle.js_tokens.specs.declared.word.Word.{Word}
use Rattle.js_tokens.specs.declared.token.TokenKind.{TokenKind}
use Rattle.js_tokens.specs.declared.token.TokenKind.TheVariants.{Name, Reserved, Punctuator, Number, Text}
use Rattle.js_tokens.specs.declared.token.Token.{Token}
use Rattle.js_tokens.proofs.Pieces.{inside_one}
use Rattle.js_tokens.proofs.Table.{spelling_one}
use Rattle.js_tokens.proofs.Fronts.{Front, front, stands_pos, quote_same}

-- what stands between tokens ends at one place
gap_one : {us : List ℕ} {m n : ℕ} {a b : Bool} → Gap us m a → Gap us n b → (m ≡ n) × (a ≡ b)
gap_one (none a) (none b) = (refl, refl)
gap_one (none a) (more p r) = absurd (omega (arith, a, p))
gap_one (more p r) (none b) = absurd (omega (arith, b, p))
gap_one {us = us} (more p r) (more q s) =
    let (e, f) = gap_one r s in
    (ap (λ z. blank us + z) e, ap (λ z. list_any is_line_end (take (blank us) us) || z) f)

-- the kinds by what they begin with: names and reserved words are of one sort
abbrev sort : TokenKind → ℕ
sort (Name t) = 0
sort (Reserved t) = 0
sort (Punctuator t) = 1
sort (Number z) = 2
sort (Text t) = 3

abbrev sort_of : List ℕ → ℕ
sort_of us = if begins is_start us then 0 else (if begins is_digit us then 2 else (if begins is_quote us then 3 else 1))

no_start_digit : (us : List ℕ) → begins is_digit us ≡ true → begins is_start us ≡ false
no_start_digit [] h = refl
no_start_digit (u ∷ us) h = grind (arith, common_steps)

no_start_quote : (us : List ℕ) → begins is_quote us ≡ true → begins is_start us ≡ false
no_start_quote [] h = refl
no_start_quote (u ∷ us) h = grind (arith, common_steps)

no_digit_quote : (us : List ℕ) → begins is_quote us ≡ true → begins is_digit us ≡ false
no_digit_quote [] h = refl
no_digit_quote (u ∷ us) h = grind (arith, common_steps)

sort_is : (k : TokenKind) (us : List ℕ) → Front k us → sort k ≡ sort_of us
sort_is (Name t) us h = rw h refl
sort_is (Reserved t) us h = rw h refl
sort_is (Punctuator t) us (a, b, c) = rw (a, b, c) refl
sort_is (Number z) us h = rw (no_start_digit us h, h) refl
sort_is (Text t) us h = rw (no_start_quote us h, no_digit_quote us h, h) refl

-- a token has a unit
has_unit : (k : TokenKind) (w : Word) (us : List ℕ) (n : ℕ) → Stands k w us n → 0 < length (take n us)
has_unit k w us n x = omega (arith, x.0, stands_pos k w us n x, length-take-le n us x.0)

-- a text of this length is one token here
stands_one : (j k : TokenKind) (v w : Word) (us : List ℕ) (n : ℕ) → sort j ≡ sort k → Stands j v us n → Stands k w us n → (j ≡ k) × (v ≡ w)
stands_one (Name s) (Name t) v w us n e (h, (a, b, c, d)) (h', (a', b', c', d')) = (ap Name (d ∙ sym d'), c ∙ sym c')
stands_one (Name s) (Reserved t) v w us n e (h, (a, b, c, d)) (h', (a', b', c')) = absurd (b w b')
stands_one (Reserved s) (Name t) v w us n e (h, (a, b, c)) (h', (a', b', c', d')) = absurd (b' v b)
stands_one (Reserved s) (Reserved t) v w us n e x y = (ap Reserved (x.1.2 ∙ sym y.1.2), spelling_one (take n us) v w (has_unit (Reserved s) v us n x) x.1.1 y.1.1)
stands_one (Punctuator s) (Punctuator t) v w us n e x y = (ap Punctuator (x.1.3 ∙ sym y.1.3), spelling_one (take n us) v w (has_unit (Punctuator s) v us n x) x.1.2 y.1.2)
stands_one (Number y) (Number z) v w us n e (h, (a, b, c, d, f)) (h', (a', b', c', d', f')) = (ap Number (f ∙ sym f'), d ∙ sym d')
stands_one (Text s) (Text t) v w us n e (h, (q, m, a, b, i, d, f)) (h', (q', m', a', b', i', d', f')) = (ap Text (inside_one i (subst (λ z. Inside z (drop 1 us) m' t) (quote_same us q' q b' b) i')).1, f ∙ sym f')
stands_one j k v w us n e x y = absurd (omega (arith, e))

-- the longest has one kind, word and length
longest_one : (j k : TokenKind) (v w : Word) (us : List ℕ) (m n : ℕ) → Longest j v us m → Longest k w us n → (j ≡ k) × (v ≡ w) × (m ≡ n)
longest_one j k v w us m n x y =
    let e : n ≡ m = omega (arith, x.1 k w n y.0, y.1 j v m x.0) in
    let (a, b) = stands_one j k v w us m (sort_is j us (front j v us m x.0) ∙ sym (sort_is k us (front k w us n y.0))) x.0 (subst (Stands k w us) e y.0) in
    (a, b, sym e)

-- the first token from a place on is one
next_one : (text : List ℕ) (i : ℕ) (t u : Token) → IsNext text i t → IsNext text i u → t ≡ u
next_one text i t u (m, g, a, p, x) (n, h, b, q, y) =
    let (e, f) = gap_one g h in
    let from : t.from ≡ u.from = a ∙ ap (λ z. i + z) e ∙ sym b in
    let (k, w, l) = longest_one t.kind u.kind t.word u.word (drop t.from text) (t.to - t.from) (u.to - u.from) x (subst (λ z. Longest u.kind u.word (drop z text) (u.to - u.from)) (sym from) y) in
    let to : t.to ≡ u.to = omega (arith, p, q, from, l) in
    λ r. record { kind = k r; word = w r; from = from r; to = to r; line_before = f r }

-- where the text ends, no token begins
end_next : (text : List ℕ) (i n : ℕ) (line : Bool) (t : Token) → Gap (drop i text) n line → i + n ≡ length text → IsNext text i t → ⊥
end_next text i n line t g e (m, h, a, p, x) = omega (arith, (gap_one g h).0, x.0.0, length-drop t.from text)

-- where no token begins, none is the first
stuck_next : (text : List ℕ) (i n : ℕ) (line : Bool) (t : Token) → Gap (drop i text) n line → NoneStands (drop (i + n) text) → IsNext text i t → ⊥
stuck_next text i n line t g f (m, h, a, p, x) =
    let from : t.from ≡ i + n = a ∙ ap (λ z. i + z) (sym (gap_one g h).0) in
    f t.kind t.word (t.to - t.from) (subst (λ z. Stands t.kind t.word (drop z text) (t.to - t.from)) from x.0)

pub one_list : (text : List ℕ) (i : ℕ) (ts us : List Token) → TokensFrom text i ts → TokensFrom text i us → ts ≡ us
one_list text i [] [] (ends g e) (ends h f) = refl
one_list text i [] us (ends {n = n} {line = line} g e) (next {t = u} y s) = absurd (end_next text i n line u g e y)
one_list text i ts [] (next {t = t} x r) (ends {n = n} {line = line} h f) = absurd (end_next text i n line t h f x)
one_list text i ts us (next {t = t} {ts = ts'} x r) (next {t = u} {ts = us'} y s) =
    let e = next_one text i t u x y in
    let rest = one_list text t.to ts' us' r (subst (λ z. TokensFrom text z.to us') (sym e) s) in
    ap (λ z. z ∷ ts') e ∙ ap (λ zs. u ∷ zs) rest

pub never_both : (text : List ℕ) (i : ℕ) (ts : List Token) (at : ℕ) → TokensFrom text i ts → RefusedFrom text i at → ⊥
never_both text i ts at (ends g e) (here h l f) = omega (arith, (gap_one g h).0, e, l)
never_both text i ts at (ends {n = n} {line = line} g e) (later u y s) = end_next text i n line u g e y
never_both text i ts at (next {t = t} x r) (here {n = n} {line = line} h l f) = stuck_next text i n line t h f x
never_both text i ts at (next {t = t} {ts = ts'} x r) (later u y s) =
    never_both text t.to ts' at r (subst (λ z. RefusedFrom text z.to at) (sym (next_one text i t u x y)) s)

pub one_place : (text : List ℕ) (i at place : ℕ) → RefusedFrom text i at → RefusedFrom text i place → at ≡ place
one_place text i at place (here g k f) (here h l s) = ap (λ z. i + z) (gap_one g h).0
one_place text i at place (here {n = n} {line = line} g k f) (later u y s) = absurd (stuck_next text i n line u g f y)
one_place text i at place (later t x r) (here {n = n} {line = line} h l f) = absurd (stuck_next text i n line t h f x)
one_place text i at place (later t x r) (later u y s) =
    one_place text t.to at place r (subst (λ z. RefusedFrom text z.to place) (sym (next_one text i t u x y)) s)
