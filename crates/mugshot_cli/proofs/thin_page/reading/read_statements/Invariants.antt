use Rattle.std.proofs.Common.{length}
use Rattle.mugshot_cli.specs.ThinPage.Reading.{EndsScript, IsStatement, statement_text}
use Rattle.mugshot_cli.proofs.ThinPage.Joined.{Reached}
use Rattle.mugshot_cli.proofs.thin_page.reading.read_statements.Given as goal

abbrev pub invariant-statements : goal.invariant-statements
invariant-statements l = Reached statement_text IsStatement 59 EndsScript l.fn.bytes l.statements.items l.rest

abbrev pub decreases-statements : goal.decreases-statements
decreases-statements l = length l.rest
