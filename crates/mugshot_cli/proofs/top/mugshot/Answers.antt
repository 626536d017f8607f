use Rattle.mugshot_cli.specs.Outside.{stream}
use Rattle.mugshot_cli.proofs.ListComplete.{list_completes}
use Rattle.mugshot_cli.proofs.ReplayComplete.{replay_completes}
use Rattle.mugshot_cli.proofs.CaptureComplete.{capture_completes}
use Rattle.mugshot_cli.proofs.top.mugshot.Goals as goal

pub returns-clause-did : goal.returns-clause-did
returns-clause-did g c = record {
  outcome = c.run-outcome.result;
  status_is = c.status.ensures;
  said = c.say.ensures;
  did = c.run-outcome.ensures (stream g.E.Sink c.args.err.now) (stream g.E.Sink c.say.new.err);
}

pub returns-clause-list_completes : goal.returns-clause-list_completes
returns-clause-list_completes g c =
    rw c.status.ensures (list_completes _ _ _ _ (c.run-outcome.ensures (stream g.E.Sink c.args.err.now) (stream g.E.Sink c.say.new.err)))

pub returns-clause-replay_completes : goal.returns-clause-replay_completes
returns-clause-replay_completes g c =
    rw c.status.ensures (replay_completes _ _ _ _ (c.run-outcome.ensures (stream g.E.Sink c.args.err.now) (stream g.E.Sink c.say.new.err)))

pub returns-clause-capture_completes : goal.returns-clause-capture_completes
returns-clause-capture_completes g c =
    rw c.status.ensures (capture_completes _ _ _ _ (c.run-outcome.ensures (stream g.E.Sink c.args.err.now) (stream g.E.Sink c.say.new.err)))
