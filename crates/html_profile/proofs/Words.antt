-- Texts with the same units.
use Rattle.std.proofs.Common.{◌≡◌, ℕ, suc, ◌<◌, ◌≤◌, ◌&&◌, true, List, [], ◌∷◌, length, get_or, refl, sym, ap, ◌∙◌, arith, eq-eqb}
use Rattle.std.specs.Str.{bytes_eq}

same_units : (a b : List ℕ) → length a ≡ length b → ((k : ℕ) → k < length a → get_or a k 0 ≡ get_or b k 0) → true ≡ bytes_eq a b
same_units [] [] long at = refl
same_units [] (y ∷ ys) long at = absurd (omega arith)
same_units (x ∷ xs) [] long at = absurd (omega arith)
same_units (x ∷ xs) (y ∷ ys) long at =
    let first : x ≡ y = at 0 (omega arith) in
    same_units xs ys (omega arith) (λ k inside. at (suc k) (omega arith)) ∙ sym (ap (λ t. t && bytes_eq xs ys) (eq-eqb x y first))

pub all_same : (a b : List ℕ) (i : ℕ) → length a ≡ length b → length a ≤ i → ((k : ℕ) → k < i → get_or a k 0 ≡ get_or b k 0) → true ≡ bytes_eq a b
all_same a b i long end at = same_units a b long (λ k inside. at k (omega arith))
