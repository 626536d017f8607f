-- Two tests that calls keep: what a value names is there, and it asks nothing.
use Rattle.std.specs.Prelude.{ℕ, List, Bool, true, not, Option, Some, None, is_some, slice_get}
use Rattle.js_value.specs.declared.value.Callee.TheVariants as callee
use Rattle.js_value.specs.declared.value.Value.{Value}
use Rattle.js_value.specs.declared.value.Value.TheVariants as value
use Rattle.js_heap.specs.World.{World}
use Rattle.js_heap.specs.declared.class.Class.{Class}
use Rattle.js_heap.specs.declared.class.Class.TheVariants as class
use Rattle.js_host.specs.Keeps.{AllPass, Test}
use Rattle.js_host.specs.Names.{outcome_names}
use Rattle.js_host.specs.Natives.{asks}
use Rattle.js_host.specs.declared.call.Outcome.{Outcome}
use Rattle.js_host.specs.declared.call.Outcome.TheVariants as outcome

-- the object that a value names is there, also within a wrap
abbrev pub there : Test
there cs (value.Ref o) = is_some (slice_get cs o.number)
there cs (value.Wrap f (callee.Ref o)) = is_some (slice_get cs o.number)
there cs v = true

abbrev pub class_is_calm : Option Class → Bool
class_is_calm (Some (class.Builtin (Some n))) = not (asks n.number)
class_is_calm c = true

-- outside a wrap a value is no native that asks, and no reference to an object whose class has one
abbrev pub calm : Test
calm cs (value.Native n) = not (asks n.number)
calm cs (value.Ref o) = class_is_calm (slice_get cs o.number)
calm cs v = true

-- unless memory ran out, a world and what it and an outcome name pass
abbrev pub PassAfter : {H : Type 0} → Test → (H → List Value) → Outcome → World → H → Type 0
PassAfter ok names outcome.NoMemory w h = Unit {0}
PassAfter ok names o w h = AllPass ok w (outcome_names o (names h))
