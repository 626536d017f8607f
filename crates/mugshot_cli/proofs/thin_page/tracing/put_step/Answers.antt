use Rattle.std.proofs.Common.{◌∙◌, ◌++◌, drop, sym, ap}
use Rattle.std.specs.List.{flat_map}
use Rattle.std.proofs.lemmas.Result.{err_from_is_err_and}
use Rattle.capture_engine.specs.Acks.{text_of_lines}
use Rattle.mugshot_cli.specs.ThinPage.Tracing.{log_line, turn_lines}
use Rattle.mugshot_cli.proofs.PrintedLines.{puts_failed, puts_same, puts_then}
use Rattle.mugshot_cli.proofs.ThinPage.Visits.{step_text}
use Rattle.mugshot_cli.proofs.thin_page.tracing.put_step.Goals as goal

pub returns-in_err-put_turn : goal.returns-in_err-put_turn
returns-in_err-put_turn g c =
    let p = err_from_is_err_and c.from_residual.result c.from_residual.ensures.1 in
    rw (p.1, p.2) (puts_same _ _ (sym (step_text c.args.turns c.args.count c.args.page.now))
    (puts_failed (text_of_lines (turn_lines c.args.turns c.args.page.now)) (flat_map log_line (drop c.args.count c.args.page.now.console)) _ c.in_err-put_turn.ensures))

pub returns : goal.returns
returns g c =
    let first = c.in_ok-put_turn.ensures in
    let lines = c.after.ensures ∙ ap (drop c.args.count) c.console.ensures in
    puts_same _ _ (ap (λ l. text_of_lines (turn_lines c.args.turns c.args.page.now) ++ flat_map log_line l) lines ∙ sym (step_text c.args.turns c.args.count c.args.page.now))
    (puts_then c.put_logs.result (text_of_lines (turn_lines c.args.turns c.args.page.now)) (flat_map log_line c.after.result.now) first.ok first.later c.put_logs.ensures)
