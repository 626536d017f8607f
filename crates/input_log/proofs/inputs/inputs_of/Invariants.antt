use Rattle.std.proofs.Common.{◌≡◌, take}
use Rattle.input_log.specs.Inputs.{inputs_of}
use Rattle.input_log.proofs.inputs.inputs_of.Given as goal

abbrev pub invariant-loop-item : goal.invariant-loop-item
invariant-loop-item l = l.inputs.items ≡ inputs_of (take l.item-index l.items)
