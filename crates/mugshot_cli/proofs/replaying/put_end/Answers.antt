use Rattle.std.proofs.Common.{◌≡◌, ◌∙◌, []}
use Rattle.std.proofs.lemmas.List.{append-nil}
use Rattle.std.proofs.lemmas.Result.{err_from_is_err_and}
use Rattle.capture_engine.specs.Acks.{text_of_lines}
use Rattle.mugshot_cli.specs.ThinPage.Machine.{counts_of}
use Rattle.mugshot_cli.specs.ThinPage.Tracing.{last_lines}
use Rattle.mugshot_cli.proofs.PrintedLines.{puts_same, puts_then}
use Rattle.mugshot_cli.proofs.replaying.put_end.Goals as goal

pub returns-in_err-put_last-clause-puts : goal.returns-in_err-put_last-clause-puts
returns-in_err-put_last-clause-puts g c =
    let p = err_from_is_err_and c.from_residual.result c.from_residual.ensures.1 in
    let last : text_of_lines (last_lines c.args.end c.page.result.now.turns (counts_of c.page.result.now) c.consumed.result) ≡ text_of_lines (last_lines c.args.end c.args.run.now.state.turns (counts_of c.args.run.now.state) c.args.run.now.consumed) =
    (λ i. text_of_lines (last_lines c.args.end (c.page.ensures i).turns (counts_of (c.page.ensures i)) (c.consumed.ensures.is i))) in
    rw (p.1, p.2) (puts_same _ _ last c.in_err-put_last.ensures)

pub returns-clause-puts : goal.returns-clause-puts
returns-clause-puts g c =
    let last : text_of_lines (last_lines c.args.end c.page.result.now.turns (counts_of c.page.result.now) c.consumed.result) ≡ text_of_lines (last_lines c.args.end c.args.run.now.state.turns (counts_of c.args.run.now.state) c.args.run.now.consumed) =
    (λ i. text_of_lines (last_lines c.args.end (c.page.ensures i).turns (counts_of (c.page.ensures i)) (c.consumed.ensures.is i))) in
    let put = c.in_ok-put_last.ensures in
    puts_same _ _ (append-nil _ ∙ last) (puts_then c.flush.result (text_of_lines (last_lines c.args.end c.page.result.now.turns (counts_of c.page.result.now) c.consumed.result)) [] put.ok put.later c.flush.ensures.puts)
