use Rattle.written_text.specs.Escapes.{plain}
use Rattle.written_text.proofs.Spelling.{escape-then}
use Rattle.written_text.proofs.byte_reading.first_byte.Goals as goal

pub returns-then-byte-eq92-clause-spells : goal.returns-then-byte-eq92-clause-spells
returns-then-byte-eq92-clause-spells c = escape-then c.args.byte c.args.behind.now c.escaped_byte.result c.if-byte-eq92.true c.escaped_byte.ensures.is

pub returns-else-byte-eq92-clause-spells : goal.returns-else-byte-eq92-clause-spells
returns-else-byte-eq92-clause-spells c bytes s = plain c.if-byte-eq92.false s
