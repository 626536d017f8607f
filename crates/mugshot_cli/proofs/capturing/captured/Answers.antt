use Rattle.std.proofs.Common.{arith}
use Rattle.std.proofs.lemmas.Result.{err_from_is_err_and}
use Rattle.mugshot_cli.proofs.CaptureOutcome.{base_of, not_captured, ran, starved}
use Rattle.mugshot_cli.proofs.capturing.captured.Goals as goal

pub returns-in_err-material : goal.returns-in_err-material
returns-in_err-material g c =
    let p = err_from_is_err_and c.from_residual.result c.from_residual.ensures.1 in
    rw (p.1, p.2) (not_captured _ _ _ _ _ _ _ c.in_err-material.ensures.refused)

pub record-requires-clause-head : goal.record-requires-clause-head
record-requires-clause-head g c =
    let is = c.in_ok-material.ensures.read in
    (base_of c.in_ok-material.material.given is.ranges, c.requires.least, c.requires.most, omega (arith, is.thin.within))

pub record-requires-clause-ranges : goal.record-requires-clause-ranges
record-requires-clause-ranges g c = c.in_ok-material.ensures.read.ranges.turns

pub returns-in_err-outcome : goal.returns-in_err-outcome
returns-in_err-outcome g c =
    let p = err_from_is_err_and c.from_residual-in_err-outcome.result c.from_residual-in_err-outcome.ensures.1 in
    rw (p.1, p.2) (starved _ _ _ _ _ _ _ c.in_err-outcome.ensures.same)

pub returns : goal.returns
returns g c = ran _ _ _ _ _ _ c.in_ok-material.ensures.read _ _ _ c.in_ok-outcome.ensures.records
