-- The bytes counted so far, and the rest.
use Rattle.std.proofs.Common.{◌≡◌, ◌+◌, length}
use Rattle.mug_text.specs.Text.{utf8_of}
use Rattle.mug_text.proofs.Decoding.{units_left}
use Rattle.mug_text.proofs.utf8.count_utf8.Given as goal

abbrev pub invariant-loop-decoded : goal.invariant-loop-decoded
invariant-loop-decoded l = record {
  can : (goal.iterator-loop-decoded).can_next l.decoded-iterator;
  finite : (goal.iterator-loop-decoded).is_finite l.decoded-iterator;
  counted : l.count + length (utf8_of (units_left l.decoded-iterator)) ≡ length (utf8_of l.units);
}
