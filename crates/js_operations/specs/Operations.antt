-- What the operators between two operands do (ECMA-262 edition 5.1, 11.5 to 11.10): one table of
-- the operators, what each converts its operands by, and what it gives of converted ones.
use Rattle.std.specs.Prelude.{ℕ, zero, suc, Bool, true, false, not, ◌==◌, List, [], Option}
use Rattle.std.specs.Prelude.{Some, None, codes, length, if◌then◌else◌}
use Rattle.std.specs.List.{list_any}
use Rattle.std.specs.Option.{option_and_then, option_map}
use Rattle.js_value.specs.Image.{image, is_primitive}
use Rattle.js_value.specs.Same.{same}
use Rattle.js_value.specs.declared.value.Value.{Value}
use Rattle.js_value.specs.declared.value.Value.TheVariants as value
use Rattle.js_ops.specs.Convert.{to_text}
use Rattle.js_ops.specs.Rows.{add, arith, bits, equal, less}
use Rattle.js_ops.specs.declared.equality.Equality.{Equality}
use Rattle.js_ops.specs.declared.equality.Equality.TheVariants as equality
use Rattle.js_ops.specs.declared.equality.Side.TheVariants as side
use Rattle.js_ops.specs.declared.equality.Hint.{Hint}
use Rattle.js_ops.specs.declared.equality.Hint.TheVariants as hint
use Rattle.js_ops.specs.declared.number.Arith.TheVariants as arith_op
use Rattle.js_ops.specs.declared.number.Bits.TheVariants as bits_op
use Rattle.js_heap.specs.Chains.{chain}
use Rattle.js_heap.specs.Objects.{prototype_number}
use Rattle.js_heap.specs.World.{World, object_at}
use Rattle.js_heap.specs.declared.class.Class.{Class}
use Rattle.js_heap.specs.declared.class.Class.TheVariants as class
use Rattle.js_heap.specs.declared.root.Root.TheVariants as root
use Rattle.js_reference.specs.Callables.{class_at, is_callable, is_object}
use Rattle.js_reference.specs.Errors.{Answer, or_throw, root_object, thrown}
use Rattle.js_reference.specs.Errors.Answer.{Returns}
use Rattle.js_reference.specs.declared.error.ErrorName.TheVariants.{RangeError, TypeError}
use Rattle.js_reference.specs.Own.{OwnProperties}
use Rattle.js_reference.specs.Properties.{has_property, property}
use Rattle.js_tree.specs.declared.production.BinaryOperator.{BinaryOperator}
use Rattle.js_tree.specs.declared.production.BinaryOperator.TheVariants as binary
use Rattle.js_operations.specs.declared.operation.Operation.{Operation}
use Rattle.js_operations.specs.declared.operation.Operation.TheVariants as op
use Rattle.js_operations.specs.declared.operation.Relation.{Relation}
use Rattle.js_operations.specs.declared.operation.Relation.TheVariants as relates

abbrev pub operation : BinaryOperator → Operation
operation binary.Multiply = op.Arithmetic arith_op.Mul
operation binary.Divide = op.Arithmetic arith_op.Div
operation binary.Remainder = op.Arithmetic arith_op.Rem
operation binary.Add = op.Sum
operation binary.Subtract = op.Arithmetic arith_op.Sub
operation binary.ShiftLeft = op.Bitwise bits_op.Left
operation binary.ShiftRight = op.Bitwise bits_op.Right
operation binary.ShiftZero = op.Bitwise bits_op.Zero
operation binary.Less = op.Relates relates.Less
operation binary.Greater = op.Relates relates.Greater
operation binary.LessEqual = op.Relates relates.LessEqual
operation binary.GreaterEqual = op.Relates relates.GreaterEqual
operation binary.InstanceOf = op.InstanceOf
operation binary.In = op.HasProperty
operation binary.Equal = op.Equals true
operation binary.NotEqual = op.Equals false
operation binary.Identical = op.Is true
operation binary.NotIdentical = op.Is false
operation binary.BitAnd = op.Bitwise bits_op.Both
operation binary.BitXor = op.Bitwise bits_op.Unlike
operation binary.BitOr = op.Bitwise bits_op.Either

-- the hint where the place is the first
abbrev pub at_first : Hint → ℕ → Option Hint
at_first k zero = Some k
at_first k (suc i) = None

abbrev pub at_second : Hint → ℕ → Option Hint
at_second k zero = None
at_second k (suc i) = Some k

-- the operand that `==` converts (11.9.3)
abbrev pub equality_wants : Option Equality → ℕ → Option Hint
equality_wants (Some (equality.Converts side.Left k)) i = at_first k i
equality_wants (Some (equality.Converts side.Right k)) i = at_second k i
equality_wants e i = None

-- by which hint each operand is converted: the sum's without one, those of arithmetic and relations
-- to numbers, the key of `in` to a text
abbrev pub operation_wants : Operation → (left right : Value) → ℕ → Option Hint
operation_wants op.Sum a b i = Some hint.Default
operation_wants (op.Arithmetic o) a b i = Some hint.Number
operation_wants (op.Bitwise o) a b i = Some hint.Number
operation_wants (op.Relates r) a b i = Some hint.Number
operation_wants (op.Equals holds) a b i = equality_wants (equal a b) i
operation_wants (op.Is holds) a b i = None
operation_wants op.InstanceOf a b i = None
operation_wants op.HasProperty a b i = at_first hint.Text i

-- of a comparison in which NaN takes part nothing holds
abbrev pub holds : Option Bool → Bool
holds (Some b) = b
holds None = false

abbrev pub fails : Option Bool → Bool
fails (Some b) = not b
fails None = false

-- 11.8.1 to 11.8.4
abbrev pub relation : Relation → Value → Value → Option Bool
relation relates.Less a b = option_map holds (less a b)
relation relates.Greater a b = option_map holds (less b a)
relation relates.LessEqual a b = option_map fails (less b a)
relation relates.GreaterEqual a b = option_map fails (less a b)

-- the answer, or its contrary
abbrev pub agrees : (holds : Bool) → Bool → Bool
agrees true b = b
agrees false b = not b

-- the answer of `==`, where nothing is left to convert
abbrev pub answer_of : Equality → Option Bool
answer_of (equality.Is b) = Some b
answer_of (equality.Converts s k) = None

-- the target of a bound function, of one that is bound itself the target's, and so on, at most so
-- often (15.3.4.5.3)
abbrev pub bound_of : (Value → Value) → Value → Option Class → Value
bound_of next v (Some (class.Bound b)) = next b.f
bound_of next v k = v

abbrev pub image_target : World → (Value → Value) → Value → Value
image_target w next (value.Ref o) = bound_of next (value.Ref o) (class_at w o)
image_target w next v = v

abbrev pub target_to : ℕ → World → Value → Value
target_to zero w v = v
target_to (suc n) w v = image_target w (target_to n w) (image v)

-- the numbers of the prototypes of an object, from its own on
abbrev pub image_prototypes : World → Value → List ℕ
image_prototypes w (value.Ref o) =
    chain prototype_number w.objects (option_and_then prototype_number (object_at w o))
image_prototypes w (value.Native n) =
    chain prototype_number w.objects (Some (root_object root.FunctionPrototype).number)
image_prototypes w v = []

abbrev pub prototypes : World → Value → List ℕ
prototypes w v = image_prototypes w (image v)

-- whether one of the prototypes is that object (15.3.5.3, step 4)
abbrev pub descends : World → Value → (prototype : Value) → Bool
descends w v (value.Ref o) = list_any (λ n. n == o.number) (prototypes w v)
descends w v u = false

module _ {H : Type 0} (O : OwnProperties H) (w : World) (h : H) where
  abbrev pub instance_by : Value → Option Value → Answer H
  instance_by v None = thrown TypeError w h
  instance_by v (Some u) =
      if is_primitive u then thrown TypeError w h
      else Returns (value.Bool (descends w v (image u))) w h

  -- 11.8.6, 15.3.5.3: what is no object is no instance, whatever the function's `prototype` is
  abbrev pub instance_of : Value → Value → Answer H
  instance_of v f =
      if is_callable w f
      then (if is_primitive v then Returns (value.Bool false) w h
      else instance_by v
      (property O w h (target_to (length w.objects) w f) (codes "prototype")))
      else thrown TypeError w h

  -- 11.8.7
  abbrev pub in_object : Value → Value → Answer H
  in_object k v =
      if is_object v then Returns (value.Bool (has_property O w h v (to_text k))) w h
      else thrown TypeError w h

  -- what an operation gives of operands that are converted; outside the profile it throws a
  -- RangeError
  abbrev pub operate : Operation → Value → Value → Answer H
  operate op.Sum a b = or_throw RangeError w h (add a b)
  operate (op.Arithmetic o) a b = or_throw RangeError w h (arith o a b)
  operate (op.Bitwise o) a b = or_throw RangeError w h (bits o a b)
  operate (op.Relates r) a b = or_throw RangeError w h (option_map value.Bool (relation r a b))
  operate (op.Equals k) a b =
      or_throw RangeError w h
      (option_map (λ x. value.Bool (agrees k x)) (option_and_then answer_of (equal a b)))
  operate (op.Is k) a b = Returns (value.Bool (agrees k (same a b))) w h
  operate op.InstanceOf a b = instance_of a b
  operate op.HasProperty a b = in_object a b
