-- From this object on the chain leads to the same names.
use Rattle.std.proofs.Common.{◌<◌, [], Some, length}
use Rattle.js_table.specs.inner.Listing.{ListsMore}
use Rattle.js_heap.specs.Keys.{properties_along}
use Rattle.js_heap.proofs.objects.keys_along.Given as goal

abbrev pub invariant-loop-names : goal.invariant-loop-names
invariant-loop-names l = record {
  there : l.at.number < length l.objects;
  same : ListsMore [] [] (properties_along l.objects (Some l.fn.obj.number)) l.seen.keys l.names (properties_along l.objects (Some l.at.number));
}

abbrev pub decreases-loop-names : goal.decreases-loop-names
decreases-loop-names l = l.at.number
