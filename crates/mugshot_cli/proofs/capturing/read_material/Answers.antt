use Rattle.std.proofs.lemmas.Result.{err_from_is_err_and}
use Rattle.mugshot_cli.specs.Outside.{supply}
use Rattle.mugshot_cli.proofs.CaptureOutcome.{thin_told}
use Rattle.mugshot_cli.proofs.capturing.read_material.Goals as goal

pub returns-in_err-page-clause-refused : goal.returns-in_err-page-clause-refused
returns-in_err-page-clause-refused g c =
    let p = err_from_is_err_and c.from_residual.result c.from_residual.ensures.1 in
    rw (p.1, p.2) c.in_err-page.ensures.refused

pub returns-in_err-given-clause-refused : goal.returns-in_err-given-clause-refused
returns-in_err-given-clause-refused g c =
    let p = err_from_is_err_and c.from_residual-in_err-given.result c.from_residual-in_err-given.ensures.1 in
    let read = c.in_ok-page.ensures in
    rw (p.1, p.2) (thin_told (supply g.P.Source c.args.page.now) c.in_ok-page.page.bytes c.in_ok-page.page.statements read.whole read.thin, c.in_err-given.ensures.refused)

pub returns-clause-read : goal.returns-clause-read
returns-clause-read g c =
    let page = c.in_ok-page.ensures in
    let given = c.in_ok-given.ensures in
    record { thin = page.thin; page_is = page.whole; arrivals_are = given.read; ranges = given.ranges }
