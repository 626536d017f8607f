use Rattle.mugshot_cli.proofs.ThinPage.Statements.{same_page}
use Rattle.mugshot_cli.proofs.thin_page.reading.a_page_has_one_list.Goals as goal

pub returns : goal.returns
returns c = same_page
