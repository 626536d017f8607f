use Rattle.js_grammar.specs.inner.Ranks.{front}
use Rattle.js_expr.specs.Reading.{symbols_of}
use Rattle.js_expr.proofs.Going.{Went}
use Rattle.js_expr.proofs.reading.Reading.run.Given as goal

abbrev pub invariant-steps : goal.invariant-steps
invariant-steps l = Went l.tokens l.names l.initial.self l.self

abbrev pub decreases-steps : goal.decreases-steps
decreases-steps l = front (symbols_of l.self)
