-- The plain images of what operations come to, and of what a host does with its own properties.
use Rattle.std.specs.Prelude.{ℕ, List, ◌≡◌}
use Rattle.std.specs.Option.{option_map}
use Rattle.js_value.specs.Image.{image}
use Rattle.js_value.specs.declared.value.ObjId.{ObjId}
use Rattle.js_value.specs.declared.value.Value.{Value}
use Rattle.js_heap.specs.World.{World}
use Rattle.js_host.specs.Images.{plain_world}
use Rattle.js_reference.specs.Errors.{Answer}
use Rattle.js_reference.specs.Errors.Answer.{Returns, Throws}
use Rattle.js_reference.specs.Own.{HostWrite, OwnProperties}
use Rattle.js_reference.specs.Own.HostWrite.{NotHost, Took, Refused}

-- `g` gives the image of what a host holds
module _ {H : Type 0} (g : H → H) where
  abbrev pub plain_answer : Answer H → Answer H
  plain_answer (Returns v w h) = Returns (image v) (plain_world w) (g h)
  plain_answer (Throws v w h) = Throws (image v) (plain_world w) (g h)

  abbrev pub plain_write : HostWrite H → HostWrite H
  plain_write NotHost = NotHost
  plain_write (Took w h) = Took (plain_world w) (g h)
  plain_write (Refused v w h) = Refused (image v) (plain_world w) (g h)

  -- a host's own properties commute with the image
  pub record OwnCommute (O : OwnProperties H) : Type 0 where
    pub get : (w : World) (h : H) (o : ObjId) (x : List ℕ)
        → O.get (plain_world w) (g h) o x ≡ option_map image (O.get w h o x)
    pub put : (w : World) (h : H) (o : ObjId) (x : List ℕ) (v : Value)
        → O.put (plain_world w) (g h) o x (image v) ≡ plain_write (O.put w h o x v)
    pub sets_handler : (w : World) (h : H) (o : ObjId) (x : List ℕ)
        → O.sets_handler (plain_world w) (g h) o x ≡ O.sets_handler w h o x
