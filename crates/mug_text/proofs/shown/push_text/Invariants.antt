-- What is appended so far, and the rest.
use Rattle.std.proofs.Common.{◌≡◌, ℕ, List, ◌++◌}
use Rattle.std.specs.List.{flat_map}
use Rattle.mug_text.specs.Text.{code_points, shown_point, shown_text}
use Rattle.mug_text.proofs.Decoding.{units_left}
use Rattle.mug_text.proofs.shown.push_text.Given as goal

abbrev pub invariant-loop-decoded : goal.invariant-loop-decoded
invariant-loop-decoded l = record {
  can : (goal.iterator-loop-decoded).can_next l.decoded-iterator;
  finite : (goal.iterator-loop-decoded).is_finite l.decoded-iterator;
  printed : (shown : List ℕ) × (l.out.items ≡ l.fn.out.items ++ shown) × (shown ++ flat_map shown_point (code_points (units_left l.decoded-iterator)) ≡ shown_text l.units);
}
