use Rattle.std.proofs.Common.{length}
use Rattle.written_text.proofs.text_reading.written_text.Given as goal

abbrev pub decreases-units : goal.decreases-units
decreases-units l = length l.rest
