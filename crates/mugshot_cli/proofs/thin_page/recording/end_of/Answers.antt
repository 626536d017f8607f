use Rattle.mugshot_cli.proofs.RecordingEnds.{no_end}
use Rattle.mugshot_cli.proofs.thin_page.recording.end_of.Goals as goal

pub unreachable-requires : goal.unreachable-requires
unreachable-requires c = no_end c.requires.0 c.args.run.now c.requires.1 c.in-None.ensures
