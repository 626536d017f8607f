use Rattle.std.proofs.Common.{[]}
use Rattle.mugshot_cli.specs.ThinPage.inner.PlainState.{IsAhead, rest_of}
use Rattle.mugshot_cli.proofs.thin_page.plain_run.PlainRun.next.Given as goal

abbrev pub invariant-steps : goal.invariant-steps
invariant-steps l = IsAhead [] (rest_of l.initial.self) (rest_of l.self)

abbrev pub decreases-steps : goal.decreases-steps
decreases-steps l = l.self.left
