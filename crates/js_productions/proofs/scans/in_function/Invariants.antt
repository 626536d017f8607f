use Rattle.std.proofs.Common.{◌≡◌, reverse, length}
use Rattle.js_grammar.specs.Parts.{in_function}
use Rattle.js_productions.proofs.scans.in_function.Given as goal

-- what is passed is as though it were not there
abbrev pub invariant-symbols : goal.invariant-symbols
invariant-symbols l = in_function (reverse l.fn.stack) ≡ in_function (reverse l.rest)

abbrev pub decreases-symbols : goal.decreases-symbols
decreases-symbols l = length l.rest
