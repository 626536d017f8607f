use Rattle.std.proofs.Common.{◌-◌, length}
use Rattle.js_expr.proofs.Going.{Underway}
use Rattle.js_expr.proofs.reading.end_of.Given as goal

abbrev pub invariant-words : goal.invariant-words
invariant-words l = Underway l.tokens l.names l.fn.start l.reading

abbrev pub decreases-words : goal.decreases-words
decreases-words l = length l.tokens.items - l.reading.place
