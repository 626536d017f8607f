-- What a heap holds from the start.
use Rattle.std.specs.Prelude.{ℕ, [], Option, None, map}
use Rattle.std.specs.Option.{option_map}
use Rattle.js_value.specs.declared.value.ObjId.{ObjId}
use Rattle.js_heap.specs.World.{Object, World}
use Rattle.js_heap.specs.declared.class.Class.TheVariants.{Builtin}
use Rattle.js_heap.specs.declared.objects.TheConstants.{FIRST}
use Rattle.js_heap.specs.declared.root.Root.{Root}
use Rattle.js_heap.specs.declared.root.Root.TheVariants as root

abbrev pub root_number : Root → ℕ
root_number root.ObjectPrototype = 0
root_number root.Window = 1
root_number root.FunctionPrototype = 2
root_number root.ArrayPrototype = 3
root_number root.StringPrototype = 4
root_number root.NumberPrototype = 5
root_number root.BooleanPrototype = 6
root_number root.DatePrototype = 7
root_number root.ErrorPrototype = 8
root_number root.TypeErrorPrototype = 9
root_number root.RangeErrorPrototype = 10
root_number root.ReferenceErrorPrototype = 11
root_number root.SyntaxErrorPrototype = 12
root_number root.NodePrototype = 13
root_number root.EventPrototype = 14
root_number root.RequestPrototype = 15

abbrev pub id_of : ℕ → ObjId
id_of n = record { number = n }

abbrev pub to_prototype : Option ℕ → Option ObjId
to_prototype p = option_map id_of p

-- a built-in object that isn't called, without properties
abbrev pub builtin : Option ObjId → Object
builtin p = record { class = Builtin None; prototype = p; properties = [] }

-- the window and the prototypes: that of Object has none, those of the four error names have that
-- of Error, and the others that of Object
abbrev pub first_world : World
first_world = record { objects = map builtin (map to_prototype FIRST); scopes = [] }
