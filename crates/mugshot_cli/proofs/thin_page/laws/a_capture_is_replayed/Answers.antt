use Rattle.mugshot_cli.proofs.CaptureIsReplayed.{capture_is_replayed}
use Rattle.mugshot_cli.proofs.thin_page.laws.a_capture_is_replayed.Goals as goal

pub returns : goal.returns
returns c = capture_is_replayed
