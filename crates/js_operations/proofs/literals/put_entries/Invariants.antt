-- The entries before are put.
use Rattle.std.proofs.Common.{◌≡◌, false, drop, length, map}
use Rattle.js_host.specs.There.{AreThere}
use Rattle.js_reference.specs.Functions.{is_array_at}
use Rattle.js_operations.specs.Literals.{with_entries}
use Rattle.js_operations.proofs.literals.put_entries.Given as goal

abbrev pub invariant-loop-entry : goal.invariant-loop-entry
invariant-loop-entry l = record {
  objects : length l.heap.objects ≡ length l.fn.heap.objects;
  scopes : l.heap.scopes ≡ l.fn.heap.scopes;
  plain : is_array_at l.heap l.object ≡ false;
  values : AreThere l.heap l.values;
  put : with_entries l.heap l.object (map (λ e. e.key) (drop l.entry-index l.entries)) l.values
      ≡ with_entries l.fn.heap l.object (map (λ e. e.key) l.entries) l.fn.values;
}
