-- What is appended so far, and the rest.
use Rattle.std.proofs.Common.{◌≡◌, ℕ, List, ◌++◌}
use Rattle.mug_text.specs.Text.{utf8_of}
use Rattle.mug_text.proofs.Decoding.{units_left}
use Rattle.mug_text.proofs.utf8.push_utf8.Given as goal

abbrev pub invariant-loop-decoded : goal.invariant-loop-decoded
invariant-loop-decoded l = record {
  can : (goal.iterator-loop-decoded).can_next l.decoded-iterator;
  finite : (goal.iterator-loop-decoded).is_finite l.decoded-iterator;
  written : (done : List ℕ) × (l.out.items ≡ l.fn.out.items ++ done) × (done ++ utf8_of (units_left l.decoded-iterator) ≡ utf8_of l.units);
}
