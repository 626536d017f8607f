-- Indices in a row.
use Rattle.std.proofs.Common.{◌≡◌, ℕ, zero, suc, ◌+◌, [], ◌∷◌, ◌++◌, decimal, refl, ap, subst, arith}
use Rattle.js_reference.specs.Keys.{indices_from}

-- one more index stands behind the others
pub indices_more : (i n : ℕ) → indices_from i (suc n) ≡ indices_from i n ++ decimal (i + n) ∷ []
indices_more i zero = let e : i ≡ i + 0 = omega arith in ap (λ k. decimal k ∷ []) e
indices_more i (suc n) =
    let e : suc i + n ≡ i + suc n = omega arith in
    let P : ℕ → Type 0 = λ k. indices_from i (suc (suc n)) ≡ indices_from i (suc n) ++ decimal k ∷ [] in
    subst P e (ap (λ r. decimal i ∷ r) (indices_more (suc i) n))

pub indices_snoc : (n : ℕ) → indices_from 0 (n + 1) ≡ indices_from 0 n ++ decimal n ∷ []
indices_snoc n =
    let a : suc n ≡ n + 1 = omega arith in
    let b : 0 + n ≡ n = omega arith in
    subst (λ k. indices_from 0 k ≡ indices_from 0 n ++ decimal n ∷ []) a (subst (λ k. indices_from 0 (suc n) ≡ indices_from 0 n ++ decimal k ∷ []) b (indices_more 0 n))
