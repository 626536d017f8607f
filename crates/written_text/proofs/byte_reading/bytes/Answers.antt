use Rattle.std.proofs.Common.{arith, rules}
use Rattle.std.proofs.lemmas.Grind.{common_steps}
use Rattle.written_text.proofs.Spelling.{all-read}
use Rattle.written_text.proofs.byte_reading.bytes.Goals as goal

pub returns : goal.returns
returns c = all-read c.args.written.now c.bytes.rest.now c.bytes.bytes.items c.bytes.invariant (first_of (search rules, grind (arith, common_steps)))
