-- What each kind of token begins with.
use Rattle.std.proofs.Common.{◌≡◌, ◌≢◌, ℕ, ℤ, zero, suc, ◌+◌, ◌≤◌, ◌<◌, Bool, true, false, ◌==◌, List, [], ◌∷◌, length, take, drop, refl, sym, ◌∙◌, ap, subst, arith, Option, None, Some, MatchOption, nat_lt, nat_eq, cond}
use Rattle.std.proofs.lemmas.Bool.{eqb-true}
use Rattle.std.proofs.lemmas.Grind.{common_steps}
use Rattle.std.specs.List.{take_while}
use Rattle.mug_text.specs.Characters.{is_digit}
use Rattle.js_tokens.specs.Units.{is_start, is_part, is_quote, begins}
use Rattle.mug_text.specs.Digits.{digit, are_digits}
use Rattle.js_tokens.specs.Numbers.{is_hexadecimal, is_decimal, is_numeral}
use Rattle.js_tokens.specs.Tokens.{is_name, Stands, NoneStands}
use Rattle.js_tokens.specs.declared.word.Word.{Word}
use Rattle.js_tokens.specs.declared.token.TokenKind.{TokenKind}
use Rattle.js_tokens.specs.declared.token.TokenKind.TheVariants.{Name, Reserved, Punctuator, Number, Text}
use Rattle.std.proofs.lemmas.List.Sums.{take_while-cons}
use Rattle.js_tokens.specs.Strings.{Inside}
use Rattle.js_tokens.proofs.Pieces.{inside_one}
use Rattle.js_tokens.proofs.Runs.{and_left, and_right, and_both, run_least, run_take, run_all}
use Rattle.js_tokens.proofs.Digits.{number_run}
use Rattle.js_tokens.proofs.Table.{name_row, digit_row, quote_row}

pub clash : (b : Bool) → b ≡ true → b ≡ false → ⊥
clash b h g = cc (sym h ∙ g)

-- the first unit of a part in front is that of the whole
pub begins_take : (p : ℕ → Bool) (us : List ℕ) (n : ℕ) → take n us ≢ [] → begins p us ≡ begins p (take n us)
begins_take p us zero h = absurd (h refl)
begins_take p [] (suc n) h = refl
begins_take p (u ∷ us) (suc n) h = refl

not_empty : (p : ℕ → Bool) (us : List ℕ) → begins p us ≡ true → us ≢ []
not_empty p us h e = cc (sym h ∙ ap (begins p) e)

digit_ten : (u : ℕ) → nat_lt (digit u) 10 ≡ true → is_digit u ≡ true
digit_ten u h = grind (arith, common_steps)

hex_front : (us : List ℕ) → is_hexadecimal us ≡ true → begins is_digit us ≡ true
hex_front [] h = absurd (cc h)
hex_front (u ∷ us) h = let e : 48 ≡ u = eqb-true 48 u (and_left (nat_eq 48 u) _ h) in ap is_digit (sym e)

ten_front : (us : List ℕ) → is_decimal us ≡ true → begins is_digit us ≡ true
ten_front [] h = absurd (cc h)
ten_front (u ∷ us) h = digit_ten u (and_left (nat_lt (digit u) 10) _ (and_right (nat_lt 0 (length (u ∷ us))) _ (and_left (are_digits 10 (u ∷ us)) _ h)))

numeral_by : (us : List ℕ) (b : Bool) → is_hexadecimal us ≡ b → cond b (are_digits 16 (drop 2 us)) (is_decimal us) ≡ true → begins is_digit us ≡ true
numeral_by us true e h = hex_front us e
numeral_by us false e h = ten_front us h

numeral_front : (us : List ℕ) → is_numeral us ≡ true → begins is_digit us ≡ true
numeral_front us h = numeral_by us (is_hexadecimal us) refl h

pub quote_front : (q : ℕ) (us : List ℕ) → is_quote q ≡ true → begins (λ u. u == q) us ≡ true → begins is_quote us ≡ true
quote_front q [] h g = g
quote_front q (u ∷ us) h g = ap is_quote (eqb-true u q g) ∙ h

-- what stands first, by the kind
abbrev pub Front : TokenKind → List ℕ → Type 0
Front (Name t) us = begins is_start us ≡ true
Front (Reserved t) us = begins is_start us ≡ true
Front (Punctuator t) us = (begins is_start us ≡ false) × (begins is_digit us ≡ false) × (begins is_quote us ≡ false)
Front (Number z) us = begins is_digit us ≡ true
Front (Text t) us = begins is_quote us ≡ true

name_front : (us : List ℕ) (n : ℕ) → is_name (take n us) ≡ true → begins is_start us ≡ true
name_front us n h = let a = and_left (begins is_start (take n us)) _ h in begins_take is_start us n (not_empty is_start (take n us) a) ∙ a

pub front : (k : TokenKind) (w : Word) (us : List ℕ) (n : ℕ) → Stands k w us n → Front k us
front (Name t) w us n (h, (a, b, c, d)) = name_front us n a
front (Reserved t) w us n (h, (a, b, c)) = name_front us n a
front (Punctuator t) w us n (h, (a, b, c, d)) = (
  begins_take is_start us n b ∙ ap (begins is_start) c ∙ sym (name_row w) ∙ ap is_name (sym c) ∙ a,
  begins_take is_digit us n b ∙ ap (begins is_digit) c ∙ digit_row w,
  begins_take is_quote us n b ∙ ap (begins is_quote) c ∙ quote_row w,
)
front (Number z) w us n (h, (a, b, c, d, e)) = let g = numeral_front (take n us) a in begins_take is_digit us n (not_empty is_digit (take n us) g) ∙ g
front (Text t) w us n (h, (q, m, a, b, c, d, e)) = quote_front q us a b

start_digit : (u : ℕ) → is_start u ≡ true → is_digit u ≡ true → ⊥
start_digit u h g = grind (arith, common_steps)

start_quote : (u : ℕ) → is_start u ≡ true → is_quote u ≡ true → ⊥
start_quote u h g = grind (arith, common_steps)

digit_quote : (u : ℕ) → is_digit u ≡ true → is_quote u ≡ true → ⊥
digit_quote u h g = grind (arith, common_steps)

pub apart : (p q : ℕ → Bool) → ((u : ℕ) → p u ≡ true → q u ≡ true → ⊥) → (us : List ℕ) → begins p us ≡ true → begins q us ≡ true → ⊥
apart p q f [] h g = cc h
apart p q f (u ∷ us) h g = f u h g

-- where a name begins, no token is longer than its run
pub name_longest : (us : List ℕ) → begins is_start us ≡ true → (k : TokenKind) (w : Word) (n : ℕ) → Stands k w us n → n ≤ length (take_while is_part us)
name_longest us s (Name t) w n (h, (a, b, c, d)) = run_least is_part us n h (and_right (begins is_start (take n us)) _ a)
name_longest us s (Reserved t) w n (h, (a, b, c)) = run_least is_part us n h (and_right (begins is_start (take n us)) _ a)
name_longest us s (Punctuator t) w n x = absurd (clash _ s (front (Punctuator t) w us n x).0)
name_longest us s (Number z) w n x = absurd (apart is_start is_digit start_digit us s (front (Number z) w us n x))
name_longest us s (Text t) w n x = absurd (apart is_start is_quote start_quote us s (front (Text t) w us n x))

-- where a digit stands, a token is a number
pub number_only : (us : List ℕ) → begins is_digit us ≡ true → (k : TokenKind) (w : Word) (n : ℕ) → Stands k w us n → (z : ℤ) × Stands (Number z) w us n
number_only us s (Name t) w n x = absurd (apart is_start is_digit start_digit us (front (Name t) w us n x) s)
number_only us s (Reserved t) w n x = absurd (apart is_start is_digit start_digit us (front (Reserved t) w us n x) s)
number_only us s (Punctuator t) w n x = absurd (clash _ s (front (Punctuator t) w us n x).1)
number_only us s (Number z) w n x = (z, x)
number_only us s (Text t) w n x = absurd (apart is_digit is_quote digit_quote us s (front (Text t) w us n x))

pub number_length : (us : List ℕ) (z : ℤ) (w : Word) (n : ℕ) → Stands (Number z) w us n → n ≡ length (take_while is_part us)
number_length us z w n (h, (a, b, c, d, e)) = number_run us n h a c

-- where a quote stands, a token is a string
pub text_only : (us : List ℕ) → begins is_quote us ≡ true → (k : TokenKind) (w : Word) (n : ℕ) → Stands k w us n → (t : List ℕ) × Stands (Text t) w us n
text_only us s (Name t) w n x = absurd (apart is_start is_quote start_quote us (front (Name t) w us n x) s)
text_only us s (Reserved t) w n x = absurd (apart is_start is_quote start_quote us (front (Reserved t) w us n x) s)
text_only us s (Punctuator t) w n x = absurd (clash _ s (front (Punctuator t) w us n x).2)
text_only us s (Number z) w n x = absurd (apart is_digit is_quote digit_quote us (front (Number z) w us n x) s)
text_only us s (Text t) w n x = (t, x)

pub some_case : {A : Type 0} (P : Type 0) (Q : A → Type 0) (o : Option A) (x : A) → o ≡ Some x → MatchOption o P Q → Q x
some_case P Q o x e m = subst (λ z. MatchOption z P Q) e m

pub none_case : {A : Type 0} (P : Type 0) (Q : A → Type 0) (o : Option A) → o ≡ None → MatchOption o P Q → P
none_case P Q o e m = subst (λ z. MatchOption z P Q) e m

pub option_weaker : {A : Type 0} (o : Option A) (P : Type 0) (Q : A → Type 0) (R : Type 0) (S : A → Type 0) → (P → R) → ((x : A) → Q x → S x) → MatchOption o P Q → MatchOption o R S
option_weaker None P Q R S f g m = f m
option_weaker (Some x) P Q R S f g m = g x m

start_part : (u : ℕ) → is_start u ≡ true → is_part u ≡ true
start_part u h = grind (arith, common_steps)

run_begins : (us : List ℕ) → begins is_start us ≡ true → begins is_start (take_while is_part us) ≡ true
run_begins [] h = h
run_begins (u ∷ us) h = ap (begins is_start) (take_while-cons is_part u us ∙ ap (λ z. cond z (u ∷ take_while is_part us) []) (start_part u h)) ∙ h

-- the run is a name
pub run_name : (us : List ℕ) → begins is_start us ≡ true → is_name (take (length (take_while is_part us)) us) ≡ true
run_name us h = ap is_name (run_take is_part us) ∙ and_both _ _ (run_begins us h) (run_all is_part us)

pub quote_same : (us : List ℕ) (q r : ℕ) → begins (λ u. u == q) us ≡ true → begins (λ u. u == r) us ≡ true → q ≡ r
quote_same [] q r h g = absurd (cc h)
quote_same (u ∷ us) q r h g = sym (eqb-true u q h) ∙ eqb-true u r g

-- a string with this quote is as long as its inside and two quotes
pub text_length : (us : List ℕ) (q : ℕ) → begins (λ u. u == q) us ≡ true → is_quote q ≡ true → (m : ℕ) (v : List ℕ) → Inside q (drop 1 us) m v → (k : TokenKind) (w : Word) (n : ℕ) → Stands k w us n → n ≡ m + 2
text_length us q b a m v i k w n x = by (text_only us (quote_front q us a b) k w n x)
  where
    by : (t : List ℕ) × Stands (Text t) w us n → n ≡ m + 2
    by (t, (h, (q', m', a', b', i', d, e))) = omega (arith, d, (inside_one i (subst (λ z. Inside z (drop 1 us) m' t) (quote_same us q' q b' b) i')).0)

pub text_none : (us : List ℕ) (q : ℕ) → begins (λ u. u == q) us ≡ true → is_quote q ≡ true → ((m : ℕ) (v : List ℕ) → Inside q (drop 1 us) m v → ⊥) → NoneStands us
text_none us q b a f k w n x = by (text_only us (quote_front q us a b) k w n x)
  where
    by : (t : List ℕ) × Stands (Text t) w us n → ⊥
    by (t, (h, (q', m', a', b', i', d, e))) = f m' t (subst (λ z. Inside z (drop 1 us) m' t) (quote_same us q' q b' b) i')

-- a token has a unit
pub stands_pos : (k : TokenKind) (w : Word) (us : List ℕ) (n : ℕ) → Stands k w us n → 0 < n
stands_pos (Name t) w us zero (h, (a, b, c, d)) = absurd (cc a)
stands_pos (Reserved t) w us zero (h, (a, b, c)) = absurd (cc a)
stands_pos (Punctuator t) w us zero (h, (a, b, c, d)) = absurd (b refl)
stands_pos (Number z) w us zero (h, (a, b, c, d, e)) = absurd (cc a)
stands_pos (Text t) w us zero (h, (q, m, a, b, c, d, e)) = absurd (omega (arith, d))
stands_pos k w us (suc n) x = omega arith
