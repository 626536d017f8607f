use Rattle.std.proofs.Common.{◌≡◌, reverse, length}
use Rattle.js_grammar.specs.Parts.{breaks_to}
use Rattle.js_productions.proofs.scans.breaks_to.Given as goal

-- what is passed is as though it were not there
abbrev pub invariant-symbols : goal.invariant-symbols
invariant-symbols l = breaks_to l.label (reverse l.fn.stack) ≡ breaks_to l.label (reverse l.rest)

abbrev pub decreases-symbols : goal.decreases-symbols
decreases-symbols l = length l.rest
