-- Errors, and how properties and names are read, commute with the plain image.
use Rattle.std.proofs.Common.{◌≡◌, ℕ, List, Bool, true, false, codes, Option, Some, None}
use Rattle.std.proofs.Common.{slice_get}
use Rattle.std.proofs.Common.{unwrap_or, if◌then◌else◌, refl, ap, sym, ◌∙◌}
use Rattle.std.specs.Option.{option_and_then, option_map}
use Rattle.js_value.specs.Image.{image}
use Rattle.js_value.specs.Same.{text_equal}
use Rattle.js_value.specs.declared.value.ObjId.{ObjId}
use Rattle.js_value.specs.declared.value.Value.{Value}
use Rattle.js_value.specs.declared.value.Value.TheVariants as value
use Rattle.js_value.proofs.Images.{image-image}
use Rattle.js_ops.specs.Convert.{image_is_missing, is_missing}
use Rattle.js_heap.specs.Chains.{chain, first_some, or_else}
use Rattle.js_heap.specs.Elements.{index_of}
use Rattle.js_heap.specs.Objects.{get_own, prototype_number, with_object}
use Rattle.js_heap.specs.Roots.{id_of}
use Rattle.js_heap.specs.World.{World}
use Rattle.js_heap.specs.declared.class.Class.TheVariants as class
use Rattle.js_heap.specs.declared.class.ScopeId.{ScopeId}
use Rattle.js_heap.specs.declared.root.Root.TheVariants as root
use Rattle.js_host.specs.Images.{plain_world}
use Rattle.js_host.proofs.Plain.{get_own-plain}
use Rattle.js_reference.specs.Errors.{error_prototype, error_text, error_value, next_object}
use Rattle.js_reference.specs.Errors.{or_throw, root_object, thrown, with_error}
use Rattle.js_reference.specs.declared.error.ErrorName.{ErrorName}
use Rattle.js_reference.specs.Errors.Answer.{Returns, Throws}
use Rattle.js_reference.specs.Names.{name_value, read_name, scoped}
use Rattle.js_reference.specs.Own.{OwnProperties}
use Rattle.js_reference.specs.Properties.{image_property, object_property, own_property, property}
use Rattle.js_reference.specs.Properties.{read, text_own, text_unit, unit_text}
use Rattle.js_reference.specs.Puts.{window}
use Rattle.js_reference.specs.Room.{objects_fit}
use Rattle.js_reference.specs.declared.error.ErrorName.TheVariants.{ReferenceError, TypeError}
use Rattle.js_plain.specs.Images.{OwnCommute, plain_answer}
use Rattle.js_plain.proofs.Common.{first-map, if-ap, if-same, or_else-map}
use Rattle.js_plain.proofs.Objects.{prototypes-plain, with_object-plain}
use Rattle.js_plain.proofs.Scopes.{scopes-plain}
use Rattle.js_plain.proofs.Values.{next_object-plain, objects_fit-plain}

error_at : (b : Bool) (o : ObjId) (t : List ℕ)
    → (if b then value.Ref o else value.Text t) ≡ image (if b then value.Ref o else value.Text
    t)
error_at true o t = refl
error_at false o t = refl

pub error_value-plain : (w : World) (e : ErrorName) → error_value (plain_world w) e ≡ image
    (error_value w e)
error_value-plain w e =
    if-same _ _ _ _ _ _ (objects_fit-plain w 1) (ap value.Ref (next_object-plain w)) refl
    ∙ error_at (objects_fit w 1) (next_object w) (error_text e)

pub with_error-plain : (w : World) (e : ErrorName) → with_error (plain_world w) e ≡ plain_world
    (with_error w e)
with_error-plain w e =
    if-same _ _ _ _ _ _ (objects_fit-plain w 1) (with_object-plain w class.Error (Some
    (error_prototype e))) refl
    ∙ if-ap plain_world (objects_fit w 1) (with_object w class.Error (Some (error_prototype e))) w

pub missing-plain : (v : Value) → is_missing (image v) ≡ is_missing v
missing-plain v = ap image_is_missing (image-image v)

or_undefined : (o : Option Value)
    → unwrap_or (option_map image o) value.Undefined ≡ image (unwrap_or o value.Undefined)
or_undefined (Some v) = refl
or_undefined None = refl

unit_image : (o : Option ℕ) → option_map image (option_map unit_text o) ≡ option_map unit_text
    o
unit_image (Some u) = refl
unit_image None = refl

unit_along : (t : List ℕ) (o : Option ℕ)
    → option_map image (option_and_then (text_unit t) o) ≡ option_and_then (text_unit t) o
unit_along t (Some i) = unit_image (slice_get t i)
unit_along t None = refl

own_image : (b : Bool) (n : Value) (o : Option Value) → image n ≡ n → option_map image o ≡ o
    → option_map image (if b then Some n else o) ≡ (if b then Some n else o)
own_image true n o e f = ap Some e
own_image false n o e f = f

-- a text's own properties are no wraps
text_own-plain : (t x : List ℕ) → option_map image (text_own t x) ≡ text_own t x
text_own-plain t x = own_image (text_equal x (codes "length")) _ _ refl (unit_along t (index_of x))

module _ {H : Type 0} (g : H → H) where
  pub thrown-plain : (e : ErrorName) (w : World) (h : H)
      → thrown e (plain_world w) (g h) ≡ plain_answer g (thrown e w h)
  thrown-plain e w h =
      ap (λ v. Throws v (with_error (plain_world w) e) (g h)) (error_value-plain w e)
      ∙ ap (λ u. Throws (image (error_value w e)) u (g h)) (with_error-plain w e)

  pub or_throw-plain : (e : ErrorName) (w : World) (h : H) (o : Option Value)
      → or_throw e (plain_world w) (g h) (option_map image o) ≡ plain_answer g
      (or_throw e w h o)
  or_throw-plain e w h (Some v) = refl
  or_throw-plain e w h None = thrown-plain e w h

  module _ (O : OwnProperties H) (own : OwnCommute g O) where
    own_property-plain : (w : World) (h : H) (o : ObjId) (x : List ℕ)
        → own_property O (plain_world w) (g h) o x ≡ option_map image (own_property O w h o x)
    own_property-plain w h o x =
        ap (λ v. or_else v (get_own (plain_world w) o x)) (own.get w h o x)
        ∙ (ap (or_else (option_map image (O.get w h o x))) (get_own-plain w o x)
        ∙ or_else-map image (O.get w h o x) (get_own w o x))

    pub object_property-plain : (w : World) (h : H) (o : ObjId) (x : List ℕ)
        → object_property O (plain_world w) (g h) o x ≡ option_map image
        (object_property O w h o x)
    object_property-plain w h o x =
        ap (first_some (λ n. own_property O (plain_world w) (g h) (id_of n) x))
        (prototypes-plain w.objects (Some o.number))
        ∙ first-map image (λ n. own_property O (plain_world w) (g h) (id_of n) x)
        (λ n. own_property O w h (id_of n) x) (λ n. own_property-plain w h (id_of n) x)
        (chain prototype_number w.objects (Some o.number))

    text_property-plain : (t x : List ℕ) (a b : Option Value) → a ≡ option_map image b
        → or_else (text_own t x) a ≡ option_map image (or_else (text_own t x) b)
    text_property-plain t x a b e =
        ap (or_else (text_own t x)) e
        ∙ (ap (λ o. or_else o (option_map image b)) (sym (text_own-plain t x))
        ∙ or_else-map image
        (text_own t x) b)

    image_property-plain : (w : World) (h : H) (v : Value) (x : List ℕ)
        → image_property O (plain_world w) (g h) v x ≡ option_map image
        (image_property O w h v x)
    image_property-plain w h value.Undefined x = refl
    image_property-plain w h value.Null x = refl
    image_property-plain w h (value.Bool b) x = object_property-plain w h
        (root_object root.BooleanPrototype) x
    image_property-plain w h (value.Num n) x = object_property-plain w h
        (root_object root.NumberPrototype) x
    image_property-plain w h (value.Text t) x =
        text_property-plain t x _ _ (object_property-plain w h (root_object root.StringPrototype) x)
    image_property-plain w h (value.Ref o) x = object_property-plain w h o x
    image_property-plain w h (value.Native n) x = object_property-plain w h
        (root_object root.FunctionPrototype) x
    image_property-plain w h (value.Wrap k c) x = refl

    pub property-plain : (w : World) (h : H) (v : Value) (x : List ℕ)
        → property O (plain_world w) (g h) (image v) x ≡ option_map image (property O w h v x)
    property-plain w h v x =
        ap (λ u. image_property O (plain_world w) (g h) u x) (image-image v)
        ∙ image_property-plain w h (image v) x

    pub read-plain : (w : World) (h : H) (v : Value) (x : List ℕ)
        → read O (plain_world w) (g h) (image v) x ≡ plain_answer g (read O w h v x)
    read-plain w h v x =
        if-same _ _ _ _ _ _ (missing-plain v) (thrown-plain TypeError w h)
        (ap (λ u. Returns u (plain_world w) (g h))
        (ap (λ o. unwrap_or o value.Undefined) (property-plain w h v x) ∙ or_undefined
        (property O w h v x)))
        ∙ if-ap (plain_answer g) (is_missing v) (thrown TypeError w h)
        (Returns (unwrap_or (property O w h v x) value.Undefined) w h)

    scoped-plain : (w : World) (s : Option ScopeId) (x : List ℕ)
        → scoped (plain_world w) s x ≡ option_map image (scoped w s x)
    scoped-plain w None x = refl
    scoped-plain w (Some s) x = scopes-plain.look_up w s x

    pub name_value-plain : (w : World) (h : H) (s : Option ScopeId) (x : List ℕ)
        → name_value O (plain_world w) (g h) s x ≡ option_map image (name_value O w h s x)
    name_value-plain w h s x =
        ap (λ o. or_else o (object_property O (plain_world w) (g h) window x)) (scoped-plain w s x)
        ∙ (ap (or_else (option_map image (scoped w s x))) (object_property-plain w h window x)
        ∙ or_else-map image (scoped w s x) (object_property O w h window x))

    pub read_name-plain : (w : World) (h : H) (s : Option ScopeId) (x : List ℕ)
        → read_name O (plain_world w) (g h) s x ≡ plain_answer g (read_name O w h s x)
    read_name-plain w h s x =
        ap (or_throw ReferenceError (plain_world w) (g h)) (name_value-plain w h s x)
        ∙ or_throw-plain ReferenceError w h (name_value O w h s x)
