-- Those that were passed are there.
use Rattle.std.proofs.Common.{take}
use Rattle.js_host.specs.There.{AreThere}
use Rattle.term_answers.proofs.run.are_there.Given as goal

abbrev pub invariant-loop-value : goal.invariant-loop-value
invariant-loop-value l = AreThere l.heap (take l.value-index l.values)
