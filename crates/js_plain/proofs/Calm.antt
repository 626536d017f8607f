-- What operators give of primitive values is its own image.
use Rattle.std.proofs.Common.{◌≡◌, ℕ, List, ◌++◌, Bool, true, false, ◌||◌, Option}
use Rattle.std.proofs.Common.{Some, None}
use Rattle.std.proofs.Common.{if◌then◌else◌, refl}
use Rattle.std.specs.Option.{option_and_then, option_map}
use Rattle.js_value.specs.Image.{image}
use Rattle.js_value.specs.Number.{in_profile}
use Rattle.js_value.specs.declared.number.Num.{Num}
use Rattle.js_value.specs.declared.number.Num.TheVariants.{Whole}
use Rattle.js_value.specs.declared.value.Value.{Value}
use Rattle.js_value.specs.declared.value.Value.TheVariants as value
use Rattle.js_ops.specs.Convert.{is_text, to_number, to_text}
use Rattle.js_ops.specs.Numbers.{bits_result, sum, to_uint32, whole_result, wholes}
use Rattle.js_ops.specs.Rows.{add, arith, bits, both_numbers, profiled}
use Rattle.js_ops.specs.declared.number.Arith.{Arith}
use Rattle.js_ops.specs.declared.number.Bits.{Bits}

abbrev pub IsCalm : Option Value → Type 0
IsCalm o = option_map image o ≡ o

pub calm-num : {A : Type 0} (f : A → Num) (o : Option A) → IsCalm (option_map (λ a. value.Num
    (f a)) o)
calm-num f (Some a) = refl
calm-num f None = refl

pub calm-bool : {A : Type 0} (f : A → Bool) (o : Option A) → IsCalm (option_map
    (λ a. value.Bool
    (f a)) o)
calm-bool f (Some a) = refl
calm-bool f None = refl

calm-profiled : (o : Option Num) → IsCalm (profiled o)
calm-profiled o = calm-num (λ n. n) (option_and_then in_profile o)

calm-both : (f : Num → Num → Option Value) → ((m n : Num) → IsCalm (f m n)) →
    (a b : Option Num)
    → IsCalm (both_numbers f a b)
calm-both f e (Some m) (Some n) = e m n
calm-both f e (Some m) None = refl
calm-both f e None n = refl

calm-text : (b : Bool) (t : List ℕ) → IsCalm (if b then Some (value.Text t) else None)
calm-text true t = refl
calm-text false t = refl

calm-if : (b : Bool) (x y : Option Value) → IsCalm x → IsCalm y → IsCalm (if b then x else y)
calm-if true x y p q = p
calm-if false x y p q = q

pub calm-add : (a b : Value) → IsCalm (add a b)
calm-add a b =
    calm-if (is_text a || is_text b) _ _ (calm-text _ (to_text a ++ to_text b))
    (calm-both (λ m n. profiled (wholes sum m n)) (λ m n. calm-profiled (wholes sum m n))
    (to_number a) (to_number b))

pub calm-arith : (op : Arith) (a b : Value) → IsCalm (arith op a b)
calm-arith op a b =
    calm-both (λ m n. profiled (wholes (whole_result op) m n)) (λ m n. calm-profiled (wholes
    (whole_result op) m n))
    (to_number a) (to_number b)

pub calm-bits : (op : Bits) (a b : Value) → IsCalm (bits op a b)
calm-bits op a b =
    calm-both (λ m n. Some (value.Num (Whole (bits_result op (to_uint32 m) (to_uint32 n)))))
    (λ m n. refl)
    (to_number a) (to_number b)
