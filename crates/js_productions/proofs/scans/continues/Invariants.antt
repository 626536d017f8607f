use Rattle.std.proofs.Common.{◌≡◌, reverse, length}
use Rattle.js_grammar.specs.Parts.{continues}
use Rattle.js_productions.proofs.scans.continues.Given as goal

-- what is passed is as though it were not there
abbrev pub invariant-symbols : goal.invariant-symbols
invariant-symbols l = continues (reverse l.fn.stack) ≡ continues (reverse l.rest)

abbrev pub decreases-symbols : goal.decreases-symbols
decreases-symbols l = length l.rest
