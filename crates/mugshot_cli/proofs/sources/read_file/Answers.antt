use Rattle.std.proofs.lemmas.Result.{err_from_is_err_and}
use Rattle.mugshot_cli.specs.Outside.{supply}
use Rattle.mugshot_cli.proofs.CaptureOutcome.{file_refused, whole_read}
use Rattle.mugshot_cli.proofs.sources.read_file.Goals as goal

pub returns-in_err-given-clause-refused : goal.returns-in_err-given-clause-refused
returns-in_err-given-clause-refused g c =
    let p = err_from_is_err_and c.from_residual-in_err-given.result c.from_residual-in_err-given.ensures.1 in
    let ok = c.in_ok-bytes.ensures.ok in
    rw (p.1, p.2)
    (file_refused _ (supply g.A.Source c.args.arrivals.now) (supply g.A.Source c.read_all.new.source) _ (whole_read _ _ _ ok.1 ok.2)
    (rw c.as_slice.ensures at c.in_err-given.ensures.answers))
