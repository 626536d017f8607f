-- What a heap holds: objects and scopes by number. A host holds the rest of what a page's programs
-- reach: nodes, listeners, timers, requests, the console and the clock.
use Rattle.std.specs.Prelude.{List, Option, map, slice_get}
use Rattle.js_value.specs.declared.value.ObjId.{ObjId}
use Rattle.js_heap.specs.declared.class.Class.{Class}
use Rattle.js_heap.specs.declared.class.ScopeId.{ScopeId}
-- a property of an object's own: its name by its units, its value, and whether for-in goes through
-- it (ECMA-262 edition 5.1, 8.6.1)
pub use Rattle.js_table.specs.declared.property.Property.{Property}
-- an object (8.6): its class with what it holds by it, its prototype, and its own properties in the
-- order in which they were added
pub use Rattle.js_heap.specs.declared.object.Object.{Object}
-- a name in a scope, and its value
pub use Rattle.js_heap.specs.Binding.{Binding}
-- a scope (10.2.1.1): the scope around it, and its names in the order in which they were added
pub use Rattle.js_heap.specs.declared.scope.Scope.{Scope}

-- the number of an object or a scope is its place in the list
pub record World : Type 0 where
  pub objects : List Object
  pub scopes : List Scope

abbrev pub object_at : World → ObjId → Option Object
object_at w o = slice_get w.objects o.number

abbrev pub scope_at : World → ScopeId → Option Scope
scope_at w s = slice_get w.scopes s.number

-- the classes of the objects, by number
abbrev pub classes : World → List Class
classes w = map (λ o. o.class) w.objects
