-- What a text begins with.
use Rattle.std.proofs.Common.{◌≡◌, ℕ, true, List, [], ◌∷◌, length, take, refl, sym, ◌∙◌, ap, nat_eq}
use Rattle.std.proofs.lemmas.Bool.{eqb-true, eq-eqb}
use Rattle.std.proofs.Math.Seq.{take-length}
use Rattle.std.specs.Cmp.Lexicographic.{pointwise}
use Rattle.js_tokens.specs.Units.{opens}
use Rattle.js_tokens.proofs.Runs.{and_left, and_right, and_both}

same : (xs ys : List ℕ) → pointwise nat_eq xs ys ≡ true → xs ≡ ys
same [] [] h = refl
same [] (y ∷ ys) h = cc
same (x ∷ xs) [] h = cc
same (x ∷ xs) (y ∷ ys) h = ap (λ z. z ∷ xs) (eqb-true x y (and_left (nat_eq x y) _ h)) ∙ ap (λ zs. y ∷ zs) (same xs ys (and_right (nat_eq x y) _ h))

self : (xs : List ℕ) → pointwise nat_eq xs xs ≡ true
self [] = refl
self (x ∷ xs) = and_both (nat_eq x x) _ (eq-eqb x x refl) (self xs)

pub opens_is : (us bs : List ℕ) → opens us bs ≡ true → take (length bs) us ≡ bs
opens_is us bs h = sym (same bs (take (length bs) us) h)

pub opens_of : (us bs : List ℕ) → take (length bs) us ≡ bs → opens us bs ≡ true
opens_of us bs h = ap (pointwise nat_eq bs) h ∙ self bs

pub word_is : (us bs : List ℕ) → length us ≡ length bs → opens us bs ≡ true → us ≡ bs
word_is us bs e h = sym (take-length us) ∙ ap (λ n. take n us) e ∙ opens_is us bs h
