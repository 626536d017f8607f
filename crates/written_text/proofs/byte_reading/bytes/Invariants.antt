-- What the bytes so far leave to be read leads to what is written.
use Rattle.std.proofs.Common.{ℕ, List, ◌++◌, length}
use Rattle.written_text.specs.Escapes.{Spells}
use Rattle.written_text.proofs.byte_reading.bytes.Given as goal

abbrev pub invariant-bytes : goal.invariant-bytes
invariant-bytes l = (more : List ℕ) → Spells l.rest more → Spells l.written (l.bytes.items ++ more)

abbrev pub decreases-bytes : goal.decreases-bytes
decreases-bytes l = length l.rest
