-- Operands of images are images of operands.
use Rattle.std.proofs.Common.{◌≡◌, ℕ, zero, suc, List, [], ◌∷◌, Option, Some, None}
use Rattle.std.proofs.Common.{drop, map}
use Rattle.std.proofs.Common.{slice_get, take, unwrap_or, refl, ap, ◌∙◌}
use Rattle.std.specs.Option.{option_map}
use Rattle.js_value.specs.Image.{image}
use Rattle.js_value.specs.declared.value.Value.{Value}
use Rattle.js_value.specs.declared.value.Value.TheVariants as value
use Rattle.js_operands.specs.Steps.{operand_at}
use Rattle.js_plain.proofs.Common.{get-map}

pub take-map : {A B : Type 0} (f : A → B) (n : ℕ) (xs : List A) → take n (map f xs) ≡ map f
    (take n xs)
take-map f zero xs = refl
take-map f (suc n) [] = refl
take-map f (suc n) (x ∷ xs) = ap (λ l. f x ∷ l) (take-map f n xs)

pub drop-map : {A B : Type 0} (f : A → B) (n : ℕ) (xs : List A) → drop n (map f xs) ≡ map f
    (drop n xs)
drop-map f zero xs = refl
drop-map f (suc n) [] = refl
drop-map f (suc n) (x ∷ xs) = drop-map f n xs

pub or_undefined : (o : Option Value)
    → unwrap_or (option_map image o) value.Undefined ≡ image (unwrap_or o value.Undefined)
or_undefined (Some v) = refl
or_undefined None = refl

pub operand-plain : (vs : List Value) (n : ℕ) → operand_at (map image vs) n ≡ image
    (operand_at vs n)
operand-plain vs n = ap (λ o. unwrap_or o value.Undefined) (get-map image vs n) ∙ or_undefined
    (slice_get vs n)
