use Rattle.std.proofs.Common.{◌≡◌, ℕ, ◌+◌, ◌≤◌, None, length}
use Rattle.arrival_file.specs.Format.{lines}
use Rattle.arrival_file.proofs.rows.read_lines.Given as goal

abbrev pub invariant-loop-rest : goal.invariant-loop-rest
invariant-loop-rest l =
    (l.number + length l.rest ≤ 3 + length l.fn.bytes)
    × ((n : ℕ) × (length l.rest ≤ n) × (lines (length l.fn.bytes) 3 None l.fn.bytes ≡ lines n l.number l.so_far l.rest))

abbrev pub decreases-loop-rest : goal.decreases-loop-rest
decreases-loop-rest l = length l.rest
