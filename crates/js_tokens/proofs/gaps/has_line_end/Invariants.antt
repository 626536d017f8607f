use Rattle.std.proofs.Common.{◌≡◌, drop}
use Rattle.std.specs.List.{list_any}
use Rattle.mug_text.specs.Characters.{is_line_end}
use Rattle.js_tokens.proofs.gaps.has_line_end.Given as goal

abbrev pub invariant-loop-unit : goal.invariant-loop-unit
invariant-loop-unit l = list_any is_line_end l.units ≡ list_any is_line_end (drop l.unit-index l.units)
