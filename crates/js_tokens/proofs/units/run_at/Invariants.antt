use Rattle.std.proofs.Common.{◌≡◌, ◌+◌, length, drop}
use Rattle.std.specs.List.{take_while}
use Rattle.js_tokens.specs.Units.{is_part}
use Rattle.js_tokens.proofs.units.run_at.Given as goal

abbrev pub invariant-loop-index : goal.invariant-loop-index
invariant-loop-index l = length (take_while is_part l.units) ≡ l.index + length (take_while is_part (drop l.index l.units))
