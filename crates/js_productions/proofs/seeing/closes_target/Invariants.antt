use Rattle.std.proofs.Common.{◌≡◌}
use Rattle.js_grammar.specs.Sights.{closes_target}
use Rattle.js_productions.proofs.seeing.closes_target.Given as goal

abbrev pub invariant-closed : goal.invariant-closed
invariant-closed l = closes_target l.fn.count l.fn.tokens ≡ closes_target l.left l.rest

abbrev pub decreases-closed : goal.decreases-closed
decreases-closed l = l.left
