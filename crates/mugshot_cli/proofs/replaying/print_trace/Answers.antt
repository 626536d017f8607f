use Rattle.std.proofs.Common.{◌∙◌, sym}
use Rattle.std.proofs.lemmas.Result.{err_from_is_err_and}
use Rattle.capture_engine.specs.Acks.{text_of_lines}
use Rattle.mugshot_cli.specs.Outside.{stream}
use Rattle.mugshot_cli.specs.ThinPage.inner.InputsState.{lines_left}
use Rattle.mugshot_cli.proofs.PrintedLines.{adds_then, all_taken, broke_after, broke_first, none_first}
use Rattle.mugshot_cli.proofs.ThinPage.Visits.{end_is, inputs_are, split, whole}
use Rattle.mugshot_cli.proofs.replaying.print_trace.Goals as goal

pub returns-in_err-end-clause-err : goal.returns-in_err-end-clause-err
returns-in_err-end-clause-err g c =
    let p = err_from_is_err_and c.from_residual-in_err-end.result c.from_residual-in_err-end.ensures.1 in
    let is = c.in_ok-run.ensures.0 in
    rw (p.1, p.2) (none_first (stream g.O.Sink c.args.out.now) (stream g.O.Sink c.put_steps.new.out) c.in_err-end.field-0.0 _ _ c.new-lines.ensures (sym (split c.in_ok-run.run' _ is))
    (broke_first c.new-lines.result (stream g.O.Sink c.args.out.now) (stream g.O.Sink c.put_steps.new.out) c.in_err-end.field-0.0 (text_of_lines (lines_left c.in_ok-run.run')) _ c.in_err-end.ensures.err))

pub returns-in_err-put_end-clause-err : goal.returns-in_err-put_end-clause-err
returns-in_err-put_end-clause-err g c =
    let p = err_from_is_err_and c.from_residual-in_err-put_end.result c.from_residual-in_err-put_end.ensures.1 in
    let is = c.in_ok-run.ensures.0 in
    let steps = c.in_ok-end.ensures in
    rw (p.1, p.2) (none_first (stream g.O.Sink c.args.out.now) (stream g.O.Sink c.put_end.new.out) c.in_err-put_end.field-0.0 _ _ c.new-lines.ensures (sym (whole c.in_ok-run.run' _ is _ c.put_steps.new.run c.in_ok-run.ensures.1 steps.over))
    (broke_after (stream g.O.Sink c.put_end.new.out) c.in_err-put_end.field-0.0 (text_of_lines (lines_left c.in_ok-run.run')) _ steps.ok c.in_err-put_end.ensures.puts.err))

pub returns-clause-end : goal.returns-clause-end
returns-clause-end g c = end_is c.in_ok-run.run' _ c.in_ok-run.ensures.0 _ c.put_steps.new.run c.in_ok-run.ensures.1 c.in_ok-end.ensures.over

pub returns-clause-consumed : goal.returns-clause-consumed
returns-clause-consumed g c = c.consumed.ensures.is ∙ inputs_are c.in_ok-run.run' _ c.in_ok-run.ensures.0 _ c.put_steps.new.run c.in_ok-run.ensures.1 c.in_ok-end.ensures.over

pub returns-clause-ok : goal.returns-clause-ok
returns-clause-ok g c =
    let steps = c.in_ok-end.ensures in
    all_taken _ _ c.new-lines.ensures (sym (whole c.in_ok-run.run' _ c.in_ok-run.ensures.0 _ c.put_steps.new.run c.in_ok-run.ensures.1 steps.over))
    (adds_then _ _ steps.ok c.in_ok-put_end.ensures.puts.ok) c.in_ok-put_end.ensures.none
