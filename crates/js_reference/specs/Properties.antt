-- The properties of values, and how one is read (ECMA-262 edition 5.1, 8.7.1, 8.12.1 to 8.12.3). A
-- text has its `length` and its units by index (15.5.5); behind these a text, a number, a boolean
-- and a native function without an object have the properties of their prototypes.
use Rattle.std.specs.Prelude.{ℕ, Bool, List, [], ◌∷◌, Option, Some, None, codes, is_some, length}
use Rattle.std.specs.Prelude.{pos, slice_get, unwrap_or, if◌then◌else◌}
use Rattle.std.specs.Option.{option_and_then, option_map}
use Rattle.js_value.specs.Image.{image}
use Rattle.js_value.specs.Same.{text_equal}
use Rattle.js_value.specs.declared.number.Num.TheVariants.{Whole}
use Rattle.js_value.specs.declared.value.ObjId.{ObjId}
use Rattle.js_value.specs.declared.value.Value.{Value}
use Rattle.js_value.specs.declared.value.Value.TheVariants as value
use Rattle.js_ops.specs.Convert.{is_missing}
use Rattle.js_heap.specs.Chains.{chain, first_some, or_else}
use Rattle.js_heap.specs.Elements.{index_of}
use Rattle.js_heap.specs.Objects.{get_own, prototype_number}
use Rattle.js_heap.specs.Roots.{id_of}
use Rattle.js_heap.specs.World.{World}
use Rattle.js_heap.specs.declared.root.Root.TheVariants as root
use Rattle.js_reference.specs.Errors.{Answer, root_object, thrown}
use Rattle.js_reference.specs.Errors.Answer.{Returns}
use Rattle.js_reference.specs.declared.error.ErrorName.TheVariants.{TypeError}
use Rattle.js_reference.specs.Own.{OwnProperties}

abbrev pub text_length : List ℕ → Value
text_length t = value.Num (Whole (pos (length t)))

abbrev pub unit_text : ℕ → Value
unit_text u = value.Text (u ∷ [])

abbrev pub text_unit : List ℕ → ℕ → Option Value
text_unit t i = option_map unit_text (slice_get t i)

-- a text's own properties (15.5.5.1, 15.5.5.2)
abbrev pub text_own : List ℕ → List ℕ → Option Value
text_own t x =
    if text_equal x (codes "length") then Some (text_length t)
    else option_and_then (text_unit t) (index_of x)

module _ {H : Type 0} (O : OwnProperties H) where
  -- an object's own property: the host's, or else the heap's
  abbrev pub own_property : World → H → ObjId → List ℕ → Option Value
  own_property w h o x = or_else (O.get w h o x) (get_own w o x)

  -- that of the first object along the prototypes that has it
  abbrev pub object_property : World → H → ObjId → List ℕ → Option Value
  object_property w h o x =
      first_some (λ n. own_property w h (id_of n) x)
      (chain prototype_number w.objects (Some o.number))

  -- a text's own property, or else that of the prototype of texts
  abbrev pub text_property : World → H → List ℕ → List ℕ → Option Value
  text_property w h t x =
      or_else (text_own t x) (object_property w h (root_object root.StringPrototype) x)

  abbrev pub image_property : World → H → Value → List ℕ → Option Value
  image_property w h (value.Ref o) x = object_property w h o x
  image_property w h (value.Native n) x = object_property w h (root_object root.FunctionPrototype) x
  image_property w h (value.Text t) x = text_property w h t x
  image_property w h (value.Num n) x = object_property w h (root_object root.NumberPrototype) x
  image_property w h (value.Bool b) x = object_property w h (root_object root.BooleanPrototype) x
  image_property w h v x = None

  -- the value of a property, where there is one
  abbrev pub property : World → H → Value → List ℕ → Option Value
  property w h v x = image_property w h (image v) x

  abbrev pub has_property : World → H → Value → List ℕ → Bool
  has_property w h v x = is_some (property w h v x)

  -- a property that isn't there is undefined; undefined and null have none to read
  abbrev pub read : World → H → Value → List ℕ → Answer H
  read w h v x =
      if is_missing v then thrown TypeError w h
      else Returns (unwrap_or (property w h v x) value.Undefined) w h
