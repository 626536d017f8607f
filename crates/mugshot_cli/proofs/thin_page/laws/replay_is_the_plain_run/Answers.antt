use Rattle.mugshot_cli.proofs.ThinPage.ReplayIsPlain.{plain_again}
use Rattle.mugshot_cli.proofs.thin_page.laws.replay_is_the_plain_run.Goals as goal

pub returns : goal.returns
returns c = plain_again
