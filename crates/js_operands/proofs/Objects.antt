-- Objects that operands are.
use Rattle.std.proofs.Common.{length}
use Rattle.std.specs.Option.{option_map}
use Rattle.js_value.specs.declared.value.Callee.TheVariants as callee
use Rattle.js_value.specs.declared.value.Value.{Value}
use Rattle.js_value.specs.declared.value.Value.TheVariants as value
use Rattle.js_heap.specs.Chains.{IsBelow}
use Rattle.js_heap.specs.Closed.{IsThere}
use Rattle.js_heap.specs.Objects.{id_number}
use Rattle.js_heap.specs.World.{World}
use Rattle.js_reference.specs.Callables.{as_object}

-- the object that a value is, is there where the value is
pub object_below : (w : World) (v : Value) → IsThere w v → IsBelow (length w.objects) (option_map id_number (as_object v))
object_below w (value.Ref o) t = t
object_below w (value.Wrap f (callee.Ref o)) t = t
object_below w (value.Wrap f (callee.Native n)) t = tt
object_below w v t = tt
