use Rattle.mugshot_cli.proofs.ThinPage.Statements.{page_answer}
use Rattle.mugshot_cli.proofs.thin_page.reading.read_thin.Goals as goal

pub returns-in-Some : goal.returns-in-Some
returns-in-Some c = page_answer c.args.page.now c.in-Some.inner.now c.read_statements.result c.in-Some.ensures c.read_statements.ensures
