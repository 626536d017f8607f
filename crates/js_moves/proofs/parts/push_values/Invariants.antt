use Rattle.std.proofs.Common.{◌≡◌, ◌++◌, [], take}
use Rattle.js_moves.proofs.parts.push_values.Given as goal

abbrev pub invariant-loop-value : goal.invariant-loop-value
invariant-loop-value l =
    l.operands ≡ record { done = l.fn.operands.done ++ take l.value-index l.fn.values; todo = [] }
