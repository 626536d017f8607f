use Rattle.std.proofs.Common.{◌≡◌, ◌+◌, length, drop}
use Rattle.std.specs.Prelude.{not}
use Rattle.std.specs.List.{take_while}
use Rattle.mug_text.specs.Characters.{is_line_end}
use Rattle.js_tokens.proofs.gaps.line_at.Given as goal

abbrev pub invariant-loop-index : goal.invariant-loop-index
invariant-loop-index l = length (take_while (λ u. not (is_line_end u)) l.units) ≡ l.index + length (take_while (λ u. not (is_line_end u)) (drop l.index l.units))
