use Rattle.std.proofs.Common.{◌≡◌, reverse, length}
use Rattle.js_grammar.specs.Parts.{labels}
use Rattle.js_productions.proofs.scans.labels.Given as goal

-- what is passed is as though it were not there
abbrev pub invariant-symbols : goal.invariant-symbols
invariant-symbols l = labels l.label (reverse l.fn.stack) ≡ labels l.label (reverse l.rest)

abbrev pub decreases-symbols : goal.decreases-symbols
decreases-symbols l = length l.rest
