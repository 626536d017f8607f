-- How a property is deleted (ECMA-262 edition 5.1, 11.4.1, 8.12.7).
use Rattle.std.specs.Prelude.{ℕ, Bool, true, false, not, List, is_none, is_some, if◌then◌else◌}
use Rattle.std.specs.Option.{option_map_or}
use Rattle.js_value.specs.Image.{image}
use Rattle.js_value.specs.declared.value.ObjId.{ObjId}
use Rattle.js_value.specs.declared.value.Value.{Value}
use Rattle.js_value.specs.declared.value.Value.TheVariants as value
use Rattle.js_heap.specs.Objects.{is_length, remove}
use Rattle.js_heap.specs.World.{World, object_at}
use Rattle.js_reference.specs.Errors.{Answer, thrown}
use Rattle.js_reference.specs.Errors.Answer.{Returns}
use Rattle.js_reference.specs.declared.error.ErrorName.TheVariants.{TypeError}
use Rattle.js_reference.specs.Own.{OwnProperties}
use Rattle.js_reference.specs.Properties.{text_own}

-- all but an array's `length` may be removed
abbrev pub stays_at : World → ObjId → List ℕ → Bool
stays_at w o x = option_map_or (λ k. is_length k.class x) (object_at w o) false

module _ {H : Type 0} (O : OwnProperties H) where
  -- a host property stays as it is, and that is no failure
  abbrev pub delete_object : World → H → ObjId → List ℕ → Answer H
  delete_object w h o x =
      if is_some (O.get w h o x) then Returns (value.Bool true) w h
      else Returns (value.Bool (not (stays_at w o x))) (remove w o x) h

  abbrev pub delete_image : World → H → Value → List ℕ → Answer H
  delete_image w h value.Undefined x = thrown TypeError w h
  delete_image w h value.Null x = thrown TypeError w h
  delete_image w h (value.Ref o) x = delete_object w h o x
  delete_image w h (value.Text t) x = Returns (value.Bool (is_none (text_own t x))) w h
  delete_image w h v x = Returns (value.Bool true) w h

  -- whether the property is gone; undefined and null have none to delete
  abbrev pub delete : World → H → (base : Value) → List ℕ → Answer H
  delete w h v x = delete_image w h (image v) x
