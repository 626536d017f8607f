-- How values are shown: on console lines, in the line of a throw that nothing caught, and in the
-- texts of errors.
use Rattle.std.specs.Prelude.{ℕ, List, [], ◌∷◌, ◌++◌, Option, Some, None, codes, unwrap_or}
use Rattle.std.specs.Option.{option_and_then, option_map}
use Rattle.js_value.specs.Image.{image}
use Rattle.js_value.specs.declared.value.ObjId.{ObjId}
use Rattle.js_value.specs.declared.value.Value.{Value}
use Rattle.js_value.specs.declared.value.Value.TheVariants as value
use Rattle.js_ops.specs.Convert.{as_text, image_to_text}
use Rattle.js_heap.specs.Objects.{class_of, get}
use Rattle.js_heap.specs.World.{World, object_at}
use Rattle.js_heap.specs.declared.class.Class.{Class}
use Rattle.js_heap.specs.declared.class.Class.TheVariants as class

-- an error's name, or `Error` where that is no text
abbrev pub name_shown : Option Value → List ℕ
name_shown name = unwrap_or (option_and_then as_text name) (codes "Error")

-- behind an error's name: `: ` and its message, where that is a text that isn't empty
abbrev pub message_shown : Option (List ℕ) → List ℕ
message_shown (Some (u ∷ us)) = codes ": " ++ (u ∷ us)
message_shown m = []

-- an error, by its `name` and its `message` (ECMA-262 edition 5.1, 15.11.4.4)
abbrev pub error_shown : Option Value → Option Value → List ℕ
error_shown name message = name_shown name ++ message_shown (option_and_then as_text message)

abbrev pub class_shown : World → ObjId → Option Class → List ℕ
class_shown w o (Some class.Array) = codes "[array]"
class_shown w o (Some class.Error) =
    error_shown (get w o (codes "name")) (get w o (codes "message"))
class_shown w o (Some (class.Function c)) = codes "[function]"
class_shown w o (Some (class.Bound b)) = codes "[function]"
class_shown w o (Some (class.Builtin (Some n))) = codes "[function]"
class_shown w o c = codes "[object]"

abbrev pub object_shown : World → ObjId → List ℕ
object_shown w o = class_shown w o (option_map class_of (object_at w o))

abbrev pub image_shown : World → Value → List ℕ
image_shown w (value.Ref o) = object_shown w o
image_shown w (value.Native n) = codes "[function]"
image_shown w v = image_to_text v

-- a text as it is, an object by its class, an error by its name and message
abbrev pub shown : World → Value → List ℕ
shown w v = image_shown w (image v)

abbrev pub shown_behind : World → List Value → List ℕ
shown_behind w [] = []
shown_behind w (v ∷ vs) = codes " " ++ shown w v ++ shown_behind w vs

-- a console line: the shown values, with a space between them
abbrev pub line_shown : World → List Value → List ℕ
line_shown w [] = []
line_shown w (v ∷ vs) = shown w v ++ shown_behind w vs

-- the console line of a throw that nothing caught
abbrev pub uncaught_shown : World → Value → List ℕ
uncaught_shown w v = codes "uncaught " ++ shown w v
