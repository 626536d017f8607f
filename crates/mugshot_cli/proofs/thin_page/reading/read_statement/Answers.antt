use Rattle.mugshot_cli.proofs.ThinPage.Statements.{no_front}
use Rattle.mugshot_cli.proofs.thin_page.reading.read_statement.Goals as goal

pub returns-in_default-past-2 : goal.returns-in_default-past-2
returns-in_default-past-2 c = no_front c.args.bytes.now c.in_default.ensures c.in_default-past.ensures (λ inner xs m is has. c.in_default-past-2.ensures inner is)
