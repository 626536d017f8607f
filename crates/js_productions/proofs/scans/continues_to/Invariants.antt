use Rattle.std.proofs.Common.{◌≡◌, reverse, length}
use Rattle.js_grammar.specs.Parts.{continues_to}
use Rattle.js_productions.proofs.scans.continues_to.Given as goal

-- what is passed is as though it were not there
abbrev pub invariant-symbols : goal.invariant-symbols
invariant-symbols l = continues_to l.label (reverse l.fn.stack) ≡ continues_to l.label (reverse l.rest)

abbrev pub decreases-symbols : goal.decreases-symbols
decreases-symbols l = length l.rest
