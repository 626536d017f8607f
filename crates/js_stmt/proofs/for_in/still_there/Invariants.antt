-- The names before are no more there.
use Rattle.std.proofs.Common.{◌≡◌, drop}
use Rattle.js_reference.specs.Hosted.{hosted}
use Rattle.js_stmt.specs.ForIn.{still_there}
use Rattle.js_stmt.proofs.for_in.still_there.Given as goal

abbrev pub invariant-loop-at : goal.invariant-loop-at
invariant-loop-at g l =
    still_there (hosted g.H.Host.rows) l.heap l.host l.object (drop l.from l.names)
    ≡ still_there (hosted g.H.Host.rows) l.heap l.host l.object (drop l.at l.names)
