-- How a property is written (ECMA-262 edition 5.1, 8.7.2, 8.12.5, 15.4.5.1).
use Rattle.std.specs.Prelude.{ℕ, Bool, true, ◌&&◌, ◌||◌, ◌==◌, List, codes, if◌then◌else◌}
use Rattle.js_value.specs.Image.{image}
use Rattle.js_value.specs.Same.{text_equal}
use Rattle.js_value.specs.declared.value.ObjId.{ObjId}
use Rattle.js_value.specs.declared.value.Value.{Value}
use Rattle.js_value.specs.declared.value.Value.TheVariants as value
use Rattle.js_heap.specs.Puts.{put, refuses_at}
use Rattle.js_heap.specs.World.{World}
use Rattle.js_heap.specs.declared.root.Root.TheVariants as root
use Rattle.js_reference.specs.Errors.{Answer, root_object, thrown}
use Rattle.js_reference.specs.Errors.Answer.{Returns, Throws}
use Rattle.js_reference.specs.declared.error.ErrorName.TheVariants.{RangeError, TypeError}
use Rattle.js_reference.specs.Own.{HostWrite, OwnProperties}
use Rattle.js_reference.specs.Own.HostWrite.{NotHost, Took, Refused}

abbrev pub window : ObjId
window = root_object root.Window

-- the window's `undefined` and `NaN`, which stay (15.1.1)
abbrev pub is_fixed : ObjId → List ℕ → Bool
is_fixed o x =
    (o.number == window.number)
    && (text_equal x (codes "undefined") || text_equal x (codes "NaN"))

-- a property of the heap's; an array's `length` takes whole numbers alone
abbrev pub put_listed : {H : Type 0} → World → H → ObjId → List ℕ → Value → Answer H
put_listed w h o x v =
    if refuses_at w.objects o.number x v then thrown RangeError w h
    else Returns v (put w o x v true) h

-- what is left to do behind the host's part of a write
abbrev pub after_host : {H : Type 0} → World → H → ObjId → List ℕ → Value → HostWrite H → Answer H
after_host w h o x v NotHost = put_listed w h o x v
after_host w h o x v (Took w' h') = Returns v w' h'
after_host w h o x v (Refused e w' h') = Throws e w' h'

module _ {H : Type 0} (O : OwnProperties H) where
  -- a write to an object's property, which gives the value that is written
  abbrev pub write_object : World → H → ObjId → List ℕ → Value → Answer H
  write_object w h o x v =
      if is_fixed o x then Returns v w h else after_host w h o x v (O.put w h o x v)

  abbrev pub write_image : World → H → Value → List ℕ → Value → Answer H
  write_image w h value.Undefined x v = thrown TypeError w h
  write_image w h value.Null x v = thrown TypeError w h
  write_image w h (value.Ref o) x v = write_object w h o x v
  write_image w h u x v = Returns v w h

  -- a write to a property of a value: undefined and null have none, and what is no object forgets
  -- it
  abbrev pub write : World → H → (base : Value) → List ℕ → Value → Answer H
  write w h u x v = write_image w h (image u) x v
