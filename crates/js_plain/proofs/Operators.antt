-- Operators commute with the plain image.
use Rattle.std.proofs.Common.{◌≡◌, ℕ, zero, suc, false, not, ◌==◌, codes, length}
use Rattle.std.proofs.Common.{Option, Some}
use Rattle.std.proofs.Common.{None, is_some, if◌then◌else◌, refl, ap, sym, ◌∙◌}
use Rattle.std.specs.List.{list_any}
use Rattle.std.specs.Option.{option_and_then, option_map}
use Rattle.std.proofs.lemmas.List.{length-map}
use Rattle.js_value.specs.Image.{image, is_primitive}
use Rattle.js_value.specs.Numeral.{negated}
use Rattle.js_value.specs.declared.number.Num.{Num}
use Rattle.js_value.specs.declared.value.Value.{Value}
use Rattle.js_value.specs.declared.value.Value.TheVariants as value
use Rattle.js_value.proofs.Images.{image-image, is_primitive-image, same-image_left}
use Rattle.js_value.proofs.Images.{same-image_right, to_boolean-image}
use Rattle.js_ops.specs.Convert.{to_number, to_text}
use Rattle.js_ops.specs.Rows.{equal}
use Rattle.js_ops.proofs.Images.{add-image, arith-image, bits-image, equal-image, less-image}
use Rattle.js_ops.proofs.Images.{to_number-image, to_text-image}
use Rattle.js_heap.specs.Chains.{chain}
use Rattle.js_heap.specs.Objects.{prototype_number}
use Rattle.js_heap.specs.World.{World, object_at}
use Rattle.js_heap.specs.declared.class.Class.{Class}
use Rattle.js_heap.specs.declared.class.Class.TheVariants as class
use Rattle.js_heap.specs.declared.object.Object.{Object}
use Rattle.js_heap.specs.declared.root.Root.TheVariants as root
use Rattle.js_host.specs.Images.{plain_class, plain_object, plain_world}
use Rattle.js_operations.specs.Operations.{agrees, answer_of, bound_of, descends, equality_wants}
use Rattle.js_operations.specs.Operations.{fails, holds, image_prototypes, image_target, in_object}
use Rattle.js_operations.specs.Operations.{instance_by, instance_of, operate, operation_wants}
use Rattle.js_operations.specs.Operations.{prototypes, relation, target_to}
use Rattle.js_operations.specs.Unary.{complement, image_type, type_of, type_of_option}
use Rattle.js_operations.specs.Unary.{unary_operate}
use Rattle.js_operations.specs.declared.operation.Operation.{Operation}
use Rattle.js_operations.specs.declared.operation.Operation.TheVariants as op
use Rattle.js_operations.specs.declared.operation.Relation.{Relation}
use Rattle.js_operations.specs.declared.operation.Relation.TheVariants as relates
use Rattle.js_reference.specs.Callables.{class_at, is_callable, is_object}
use Rattle.js_reference.specs.Errors.{or_throw, root_object, thrown}
use Rattle.js_reference.specs.Errors.Answer.{Returns}
use Rattle.js_reference.specs.Own.{OwnProperties}
use Rattle.js_reference.specs.Properties.{has_property, property}
use Rattle.js_reference.specs.declared.error.ErrorName.{ErrorName}
use Rattle.js_reference.specs.declared.error.ErrorName.TheVariants.{RangeError, TypeError}
use Rattle.js_tree.specs.declared.production.UnaryOperator.{UnaryOperator}
use Rattle.js_tree.specs.declared.production.UnaryOperator.TheVariants as unary
use Rattle.js_plain.specs.Images.{OwnCommute, plain_answer}
use Rattle.js_plain.proofs.Calm.{IsCalm, calm-add, calm-arith, calm-bits, calm-bool, calm-num}
use Rattle.js_plain.proofs.Common.{get-map, if-ap, if-same, is_some-map}
use Rattle.js_plain.proofs.Objects.{prototypes-plain}
use Rattle.js_plain.proofs.Reading.{or_throw-plain, property-plain, thrown-plain}
use Rattle.js_plain.proofs.Values.{class_at-plain, values-plain}

-- Which operands are converted.

equality_wants-plain : (a b : Value) (i : ℕ)
    → equality_wants (equal (image a) (image b)) i ≡ equality_wants (equal a b) i
equality_wants-plain a b i = ap (λ e. equality_wants e i) (equal-image a b)

pub operation_wants-plain : (o : Operation) (a b : Value) (i : ℕ)
    → operation_wants o (image a) (image b) i ≡ operation_wants o a b i
operation_wants-plain op.Sum a b i = refl
operation_wants-plain (op.Arithmetic o) a b i = refl
operation_wants-plain (op.Bitwise o) a b i = refl
operation_wants-plain (op.Relates r) a b i = refl
operation_wants-plain (op.Equals holds) a b i = equality_wants-plain a b i
operation_wants-plain (op.Is holds) a b i = refl
operation_wants-plain op.InstanceOf a b i = refl
operation_wants-plain op.HasProperty a b i = refl

-- Relations.

relation-plain : (r : Relation) (a b : Value) → relation r (image a) (image b) ≡ relation r a b
relation-plain relates.Less a b = ap (option_map holds) (less-image a b)
relation-plain relates.Greater a b = ap (option_map holds) (less-image b a)
relation-plain relates.LessEqual a b = ap (option_map fails) (less-image b a)
relation-plain relates.GreaterEqual a b = ap (option_map fails) (less-image a b)

-- Targets of bound functions, and prototypes.

bound_of-plain : (f k : Value → Value) (v : Value) → ((u : Value) → k (image u) ≡ image
    (f u))
    → image v ≡ v
    → (c : Option Class) → bound_of k v (option_map plain_class c) ≡ image (bound_of f v c)
bound_of-plain f k v e p None = sym p
bound_of-plain f k v e p (Some (class.Bound b)) = e b.f
bound_of-plain f k v e p (Some class.Object) = sym p
bound_of-plain f k v e p (Some class.Array) = sym p
bound_of-plain f k v e p (Some (class.Function c)) = sym p
bound_of-plain f k v e p (Some (class.Date n)) = sym p
bound_of-plain f k v e p (Some class.Error) = sym p
bound_of-plain f k v e p (Some class.Arguments) = sym p
bound_of-plain f k v e p (Some class.Event) = sym p
bound_of-plain f k v e p (Some (class.Node n)) = sym p
bound_of-plain f k v e p (Some (class.Request n)) = sym p
bound_of-plain f k v e p (Some (class.Builtin n)) = sym p

image_target-plain : (w : World) (f k : Value → Value) → ((u : Value) → k (image u) ≡ image
    (f u)) →
    (v : Value)
    → image v ≡ v → image_target (plain_world w) k v ≡ image (image_target w f v)
image_target-plain w f k e (value.Ref o) p =
    ap (bound_of k (value.Ref o)) (class_at-plain w o) ∙ bound_of-plain f k (value.Ref o) e refl
    (class_at w o)
image_target-plain w f k e value.Undefined p = refl
image_target-plain w f k e value.Null p = refl
image_target-plain w f k e (value.Bool b) p = refl
image_target-plain w f k e (value.Num n) p = refl
image_target-plain w f k e (value.Text t) p = refl
image_target-plain w f k e (value.Native n) p = refl
image_target-plain w f k e (value.Wrap n c) p = sym p

target_to-plain : (n : ℕ) (w : World) (v : Value)
    → target_to n (plain_world w) (image v) ≡ image (target_to n w v)
target_to-plain zero w v = refl
target_to-plain (suc n) w v =
    ap (image_target (plain_world w) (target_to n (plain_world w))) (image-image v)
    ∙ image_target-plain w (target_to n w) (target_to n (plain_world w)) (target_to-plain n w)
    (image v) (image-image v)

prototype-plain : (o : Option Object)
    → option_and_then prototype_number (option_map plain_object o) ≡ option_and_then
    prototype_number o
prototype-plain (Some k) = refl
prototype-plain None = refl

image_prototypes-plain : (w : World) (v : Value) → image_prototypes
    (plain_world w) v ≡ image_prototypes w v
image_prototypes-plain w (value.Ref o) =
    ap (λ k. chain prototype_number (plain_world w).objects (option_and_then prototype_number k))
    (get-map plain_object w.objects o.number)
    ∙ (ap (chain prototype_number (plain_world w).objects) (prototype-plain (object_at w o))
    ∙ prototypes-plain w.objects (option_and_then prototype_number (object_at w o)))
image_prototypes-plain w (value.Native n) = prototypes-plain w.objects (Some
    (root_object root.FunctionPrototype).number)
image_prototypes-plain w value.Undefined = refl
image_prototypes-plain w value.Null = refl
image_prototypes-plain w (value.Bool b) = refl
image_prototypes-plain w (value.Num n) = refl
image_prototypes-plain w (value.Text t) = refl
image_prototypes-plain w (value.Wrap k c) = refl

prototypes_of-plain : (w : World) (v : Value) → prototypes (plain_world w)
    (image v) ≡ prototypes w v
prototypes_of-plain w v =
    ap (image_prototypes (plain_world w)) (image-image v) ∙ image_prototypes-plain w (image v)

descends-along : (w : World) (v u : Value) → descends (plain_world w)
    (image v) u ≡ descends w v u
descends-along w v (value.Ref o) = ap (list_any (λ n. n == o.number)) (prototypes_of-plain w v)
descends-along w v value.Undefined = refl
descends-along w v value.Null = refl
descends-along w v (value.Bool b) = refl
descends-along w v (value.Num n) = refl
descends-along w v (value.Text t) = refl
descends-along w v (value.Native n) = refl
descends-along w v (value.Wrap k c) = refl

descends-plain : (w : World) (v u : Value)
    → descends (plain_world w) (image v) (image (image u)) ≡ descends w v (image u)
descends-plain w v u = ap (descends (plain_world w) (image v)) (image-image u)
    ∙ descends-along w v
    (image u)

-- Types.

function_type : (w : World) (v : Value) → is_callable (plain_world w) v ≡ is_callable w v
    → (if is_callable (plain_world w) v then codes "function" else codes "object")
    ≡ (if is_callable w v then codes "function" else codes "object")
function_type w v e = ap (λ b. if b then codes "function" else codes "object") e

image_type-plain : (w : World) (v : Value) → image v ≡ v → image_type
    (plain_world w) v ≡ image_type w v
image_type-plain w value.Undefined p = refl
image_type-plain w value.Null p = refl
image_type-plain w (value.Bool b) p = refl
image_type-plain w (value.Num n) p = refl
image_type-plain w (value.Text t) p = refl
image_type-plain w (value.Ref o) p = function_type w (value.Ref o) (values-plain.is_callable w
    (value.Ref o))
image_type-plain w (value.Native n) p = refl
image_type-plain w (value.Wrap k c) p =
    function_type w (value.Wrap k c)
    (ap (is_callable (plain_world w)) (sym p) ∙ values-plain.is_callable w (value.Wrap k c))

type_of-plain : (w : World) (v : Value) → type_of (plain_world w) (image v) ≡ type_of w v
type_of-plain w v =
    ap (λ u. value.Text (image_type (plain_world w) u)) (image-image v)
    ∙ ap value.Text (image_type-plain w (image v) (image-image v))

pub type_of_option-plain : (w : World) (o : Option Value)
    → type_of_option (plain_world w) (option_map image o) ≡ image (type_of_option w o)
type_of_option-plain w (Some v) = type_of-plain w v
type_of_option-plain w None = refl

module _ {H : Type 0} (g : H → H) where
  -- a primitive result, or the error where there is none
  calm_answer : (e : ErrorName) (w : World) (h : H) (o u : Option Value) → u ≡ o → IsCalm o
      → or_throw e (plain_world w) (g h) u ≡ plain_answer g (or_throw e w h o)
  calm_answer e w h o u p q =
      ap (or_throw e (plain_world w) (g h)) (p ∙ sym q) ∙ or_throw-plain g e w h o

  pub unary_operate-plain : (w : World) (h : H) (o : UnaryOperator) (v : Value)
      → unary_operate (plain_world w) (g h) o (image v) ≡ plain_answer g (unary_operate w h o v)
  unary_operate-plain w h unary.Delete v = refl
  unary_operate-plain w h unary.Void v = refl
  unary_operate-plain w h unary.TypeOf v = ap (λ t. Returns t (plain_world w) (g h))
      (type_of-plain w v)
  unary_operate-plain w h unary.Plus v =
      calm_answer RangeError w h _ _ (ap (option_map value.Num) (to_number-image v)) (calm-num
      (λ n. n) (to_number v))
  unary_operate-plain w h unary.Minus v =
      calm_answer RangeError w h _ _ (ap (option_map (λ n. value.Num (negated n)))
      (to_number-image v))
      (calm-num negated (to_number v))
  unary_operate-plain w h unary.BitNot v =
      calm_answer RangeError w h _ _ (ap (option_map complement) (to_number-image v))
      (calm-complement (to_number v))
    where
      calm-complement : (o : Option Num) → IsCalm (option_map complement o)
      calm-complement (Some n) = refl
      calm-complement None = refl
  unary_operate-plain w h unary.Not v =
      ap (λ b. Returns (value.Bool (not b)) (plain_world w) (g h)) (to_boolean-image v)

  module _ (O : OwnProperties H) (own : OwnCommute g O) where
    instance_by-plain : (w : World) (h : H) (v : Value) (o : Option Value)
        → instance_by O (plain_world w) (g h) (image v) (option_map image o)
        ≡ plain_answer g (instance_by O w h v o)
    instance_by-plain w h v None = thrown-plain g TypeError w h
    instance_by-plain w h v (Some u) =
        if-same _ _ _ _ _ _ (is_primitive-image u) (thrown-plain g TypeError w h)
        (ap (λ b. Returns (value.Bool b) (plain_world w) (g h)) (descends-plain w v u))
        ∙ if-ap (plain_answer g) (is_primitive u) (thrown TypeError w h)
        (Returns (value.Bool (descends w v (image u))) w h)

    prototype_of-plain : (w : World) (h : H) (f : Value)
        → property O (plain_world w) (g h) (target_to (length (plain_world w).objects)
        (plain_world w) (image f)) (codes "prototype")
        ≡ option_map image (property O w h (target_to (length w.objects) w f) (codes "prototype"))
    prototype_of-plain w h f =
        ap (λ n. property O (plain_world w) (g h) (target_to n (plain_world w) (image f))
        (codes "prototype"))
        (length-map w.objects plain_object)
        ∙ (ap (λ u. property O (plain_world w) (g h) u (codes "prototype")) (target_to-plain
        (length w.objects) w f)
        ∙ property-plain g O own w h (target_to (length w.objects) w f) (codes "prototype"))

    instance_of-plain : (w : World) (h : H) (v f : Value)
        → instance_of O (plain_world w) (g h) (image v) (image f) ≡ plain_answer g
        (instance_of O w h v f)
    instance_of-plain w h v f =
        let named : Option Value = property O w h (target_to (length w.objects) w f)
        (codes "prototype") in
        if-same _ _ _ _ _ _ (values-plain.is_callable w f)
        (if-same _ _ _ _ _ _ (is_primitive-image v) refl
        (ap (instance_by O (plain_world w) (g h) (image v)) (prototype_of-plain w h f)
        ∙ instance_by-plain w h v named)
        ∙ if-ap (plain_answer g) (is_primitive v) (Returns (value.Bool false) w h)
        (instance_by O w h v named))
        (thrown-plain g TypeError w h)
        ∙ if-ap (plain_answer g) (is_callable w f)
        (if is_primitive v then Returns (value.Bool false) w h else instance_by O w h v named)
        (thrown TypeError w h)

    in_object-plain : (w : World) (h : H) (k v : Value)
        → in_object O (plain_world w) (g h) (image k) (image v) ≡ plain_answer g
        (in_object O w h k v)
    in_object-plain w h k v =
        if-same _ _ _ _ _ _ (ap not (is_primitive-image v))
        (ap (λ x. Returns (value.Bool (has_property O (plain_world w) (g h) (image v) x))
        (plain_world w) (g h)) (to_text-image k)
        ∙ (ap (λ o. Returns (value.Bool (is_some o)) (plain_world w) (g h))
        (property-plain g O own w h v (to_text k))
        ∙ ap (λ b. Returns (value.Bool b) (plain_world w) (g h)) (is_some-map image
        (property O w h v (to_text k)))))
        (thrown-plain g TypeError w h)
        ∙ if-ap (plain_answer g) (is_object v) (Returns (value.Bool (has_property O w h v
        (to_text k))) w h)
        (thrown TypeError w h)

    pub operate-plain : (w : World) (h : H) (o : Operation) (a b : Value)
        → operate O (plain_world w) (g h) o (image a) (image b) ≡ plain_answer g
        (operate O w h o a b)
    operate-plain w h op.Sum a b = calm_answer RangeError w h _ _ (add-image a b) (calm-add a b)
    operate-plain w h (op.Arithmetic o) a b = calm_answer RangeError w h _ _ (arith-image o a b)
        (calm-arith o a b)
    operate-plain w h (op.Bitwise o) a b = calm_answer RangeError w h _ _ (bits-image o a b)
        (calm-bits o a b)
    operate-plain w h (op.Relates r) a b =
        calm_answer RangeError w h _ _ (ap (option_map value.Bool) (relation-plain r a b))
        (calm-bool (λ x. x) (relation r a b))
    operate-plain w h (op.Equals k) a b =
        calm_answer RangeError w h _ _
        (ap (λ e. option_map (λ x. value.Bool (agrees k x)) (option_and_then answer_of e))
        (equal-image a b))
        (calm-bool (agrees k) (option_and_then answer_of (equal a b)))
    operate-plain w h (op.Is k) a b =
        ap (λ x. Returns (value.Bool (agrees k x)) (plain_world w) (g h))
        (same-image_left a (image b) ∙ same-image_right a b)
    operate-plain w h op.InstanceOf a b = instance_of-plain w h a b
    operate-plain w h op.HasProperty a b = in_object-plain w h a b
