-- The values before are copied behind those.
use Rattle.std.proofs.Common.{◌≡◌, ◌++◌, take}
use Rattle.js_term.proofs.calls.joined.Given as goal

abbrev pub invariant-loop-value : goal.invariant-loop-value
invariant-loop-value l = l.all ≡ l.fn.all ++ take l.value-index l.value-items
