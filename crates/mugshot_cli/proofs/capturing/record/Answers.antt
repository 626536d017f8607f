use Rattle.std.proofs.Common.{◌≡◌, rules}
use Rattle.mugshot_cli.specs.ThinPage.inner.PlainState.{rest_of}
use Rattle.mugshot_cli.specs.ThinPage.Run.{plain}
use Rattle.mugshot_cli.proofs.CaptureOutcome.{run_is}
use Rattle.mugshot_cli.proofs.capturing.record.Goals as goal

pub returns-clause-records : goal.returns-clause-records
returns-clause-records g c =
    let whole : rest_of c.in_ok-run.run' ≡ plain c.args.budget c.args.material.page.statements c.args.material.given.turns = search rules in
    run_is _ _ _ _ _ _ _ whole c.record_run.ensures
