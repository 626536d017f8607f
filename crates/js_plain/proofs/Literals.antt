-- Literals commute with the plain image.
use Rattle.std.proofs.Common.{◌≡◌, ℕ, suc, List, [], ◌∷◌, Bool, true, false, decimal}
use Rattle.std.proofs.Common.{Some, map}
use Rattle.std.proofs.Common.{refl, ap, ◌∙◌}
use Rattle.js_value.specs.Image.{image}
use Rattle.js_value.specs.declared.value.ObjId.{ObjId}
use Rattle.js_value.specs.declared.value.Value.{Value}
use Rattle.js_value.specs.declared.value.Value.TheVariants as value
use Rattle.js_heap.specs.Puts.{put}
use Rattle.js_heap.specs.World.{World}
use Rattle.js_heap.specs.declared.class.Class.TheVariants as class
use Rattle.js_heap.specs.declared.root.Root.TheVariants as root
use Rattle.js_host.specs.Images.{plain_world}
use Rattle.js_operations.specs.Literals.{array_literal, literal, object_literal, with_array}
use Rattle.js_operations.specs.Literals.{with_elements, with_entries, with_plain}
use Rattle.js_reference.specs.Errors.{next_object, root_object, thrown}
use Rattle.js_reference.specs.Errors.Answer.{Returns}
use Rattle.js_reference.specs.Room.{objects_fit}
use Rattle.js_reference.specs.declared.error.ErrorName.TheVariants.{RangeError}
use Rattle.js_plain.specs.Images.{OwnCommute, plain_answer}
use Rattle.js_plain.specs.Operators.{OperatorsCommute}
use Rattle.js_reference.specs.Own.{OwnProperties}
use Rattle.js_plain.proofs.Common.{if-ap, if-same}
use Rattle.js_plain.proofs.Objects.{objects-plain}
use Rattle.js_plain.proofs.Operators.{operate-plain, operation_wants-plain, type_of_option-plain}
use Rattle.js_plain.proofs.Operators.{unary_operate-plain}
use Rattle.js_plain.proofs.Reading.{thrown-plain}
use Rattle.js_plain.proofs.Values.{next_object-plain, objects_fit-plain}

with_elements-plain : (w : World) (a : ObjId) (i : ℕ) (es : List Bool) (vs : List Value)
    → with_elements (plain_world w) a i es (map image vs) ≡ plain_world
    (with_elements w a i es vs)
with_elements-plain w a i (false ∷ es) vs = with_elements-plain w a (suc i) es vs
with_elements-plain w a i (true ∷ es) (v ∷ vs) =
    ap (λ u. with_elements u a (suc i) es (map image vs)) (objects-plain.put w a
    (decimal i) v true)
    ∙ with_elements-plain (put w a (decimal i) v true) a (suc i) es vs
with_elements-plain w a i (true ∷ es) [] = objects-plain.set_length w a i
with_elements-plain w a i [] vs = objects-plain.set_length w a i

with_entries-plain : (w : World) (o : ObjId) (ks : List (List ℕ)) (vs : List Value)
    → with_entries (plain_world w) o ks (map image vs) ≡ plain_world (with_entries w o ks vs)
with_entries-plain w o (k ∷ ks) (v ∷ vs) =
    ap (λ u. with_entries u o ks (map image vs)) (objects-plain.put w o k v true)
    ∙ with_entries-plain (put w o k v true) o ks vs
with_entries-plain w o (k ∷ ks) [] = refl
with_entries-plain w o [] vs = refl

module _ {H : Type 0} (g : H → H) where
  literal-plain : (w : World) (h : H) (u v : World) → u ≡ plain_world v
      → literal (plain_world w) (g h) u ≡ plain_answer g (literal w h v)
  literal-plain w h u v e =
      if-same _ _ _ _ _ _ (objects_fit-plain w 1)
      (ap (λ o. Returns (value.Ref o) u (g h)) (next_object-plain w)
      ∙ ap (λ x. Returns (value.Ref (next_object w)) x (g h)) e)
      (thrown-plain g RangeError w h)
      ∙ if-ap (plain_answer g) (objects_fit w 1) (Returns (value.Ref (next_object w)) v h)
      (thrown RangeError w h)

  array_literal-plain : (w : World) (h : H) (es : List Bool) (vs : List Value)
      → array_literal (plain_world w) (g h) es (map image vs) ≡ plain_answer g
      (array_literal w h es vs)
  array_literal-plain w h es vs =
      literal-plain w h _ _
      (ap (λ u. with_elements u (next_object (plain_world w)) 0 es (map image vs))
      (objects-plain.with_object w class.Array (Some (root_object root.ArrayPrototype)))
      ∙ (ap (λ o. with_elements (plain_world (with_array w)) o 0 es (map image vs))
      (next_object-plain w)
      ∙ with_elements-plain (with_array w) (next_object w) 0 es vs))

  object_literal-plain : (w : World) (h : H) (ks : List (List ℕ)) (vs : List Value)
      → object_literal (plain_world w) (g h) ks (map image vs) ≡ plain_answer g
      (object_literal w h ks vs)
  object_literal-plain w h ks vs =
      literal-plain w h _ _
      (ap (λ u. with_entries u (next_object (plain_world w)) ks (map image vs))
      (objects-plain.with_object w class.Object (Some (root_object root.ObjectPrototype)))
      ∙ (ap (λ o. with_entries (plain_world (with_plain w)) o ks (map image vs))
      (next_object-plain w)
      ∙ with_entries-plain (with_plain w) (next_object w) ks vs))

  pub operators-plain : (O : OwnProperties H) → OwnCommute g O → OperatorsCommute g O
  operators-plain O own = record {
    wants = operation_wants-plain;
    operate = operate-plain g O own;
    unary_operate = unary_operate-plain g;
    type_of = type_of_option-plain;
    array_literal = array_literal-plain;
    object_literal = object_literal-plain;
  }
