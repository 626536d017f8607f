-- No object before on the chain has the property.
use Rattle.std.proofs.Common.{◌≡◌, ◌<◌, length}
use Rattle.js_reference.specs.Hosted.{hosted}
use Rattle.js_reference.specs.Properties.{object_property}
use Rattle.js_reference.proofs.reads.object_property.Given as goal

abbrev pub invariant-loop-value : goal.invariant-loop-value
invariant-loop-value g l = record {
  there : l.at.number < length l.heap.objects;
  same : object_property (hosted g.H.Host.rows) l.heap l.host l.fn.object l.key ≡ object_property (hosted g.H.Host.rows) l.heap l.host l.at l.key;
}

abbrev pub decreases-loop-value : goal.decreases-loop-value
decreases-loop-value g l = l.at.number
