-- The elements before are put.
use Rattle.std.proofs.Common.{◌≡◌, ◌≤◌, Some, drop, is_some, length, map}
use Rattle.js_heap.specs.declared.class.Class.TheVariants as class
use Rattle.js_host.specs.There.{AreThere}
use Rattle.js_reference.specs.Callables.{class_at}
use Rattle.js_operations.specs.Literals.{with_elements}
use Rattle.js_operations.proofs.literals.put_elements.Given as goal

abbrev pub invariant-loop-index : goal.invariant-loop-index
invariant-loop-index l = record {
  within : l.index ≤ l.count;
  objects : length l.heap.objects ≡ length l.fn.heap.objects;
  scopes : l.heap.scopes ≡ l.fn.heap.scopes;
  array : class_at l.heap l.array ≡ Some class.Array;
  values : AreThere l.heap l.values;
  put : with_elements l.heap l.array l.index (map is_some (drop l.index l.elements)) l.values
      ≡ with_elements l.fn.heap l.array 0 (map is_some l.elements) l.fn.values;
}
