-- The objects of the prototypes before.
use Rattle.std.proofs.Common.{◌≡◌, map, take}
use Rattle.js_heap.specs.Roots.{builtin, to_prototype}
use Rattle.js_heap.proofs.objects.first_objects.Given as goal

abbrev pub invariant-loop-prototype : goal.invariant-loop-prototype
invariant-loop-prototype l = l.objects.items ≡ map builtin (map to_prototype (take l.prototype-index l.prototype-items))
