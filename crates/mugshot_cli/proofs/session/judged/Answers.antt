use Rattle.std.proofs.Common.{refl}
use Rattle.mugshot_cli.proofs.ListOutcome.{tell_damaged, tell_unbuilt}
use Rattle.mugshot_cli.proofs.session.judged.Goals as goal

pub returns-in-Ok-true-clause-refused : goal.returns-in-Ok-true-clause-refused
returns-in-Ok-true-clause-refused g c = λ broken.
    tell_unbuilt _ _ c.args.at refl broken (rw c.in-Ok-true.field-0-test at c.in-Ok-true.ensures.told)

pub returns-in-Ok-false-clause-refused : goal.returns-in-Ok-false-clause-refused
returns-in-Ok-false-clause-refused g c = λ broken.
    tell_damaged _ _ c.args.at refl broken (rw c.in-Ok-false.field-0-test at c.in-Ok-false.ensures.told)
