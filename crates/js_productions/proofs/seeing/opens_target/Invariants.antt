use Rattle.std.proofs.Common.{◌≡◌, ◌≤◌, ◌+◌, length}
use Rattle.js_grammar.specs.Sights.{opens_target}
use Rattle.js_productions.proofs.seeing.opens_target.Given as goal

abbrev pub invariant-opened : goal.invariant-opened
invariant-opened l = record {
  same : opens_target 0 l.fn.tokens ≡ opens_target l.count l.rest;
  fits : l.count + length l.rest ≤ length l.fn.tokens;
}

abbrev pub decreases-opened : goal.decreases-opened
decreases-opened l = length l.rest
