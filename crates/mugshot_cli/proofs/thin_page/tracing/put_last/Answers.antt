use Rattle.std.proofs.Common.{◌≡◌, ◌∙◌, ap, sym}
use Rattle.std.proofs.lemmas.List.{append-nil}
use Rattle.capture_engine.specs.Acks.{text_of_lines}
use Rattle.mugshot_cli.specs.ThinPage.Machine.{counts_of}
use Rattle.mugshot_cli.specs.ThinPage.Tracing.{last_line}
use Rattle.mugshot_cli.proofs.PrintedLines.{puts_nothing, puts_same}
use Rattle.mugshot_cli.proofs.thin_page.tracing.put_last.Goals as goal

pub returns-in_default : goal.returns-in_default
returns-in_default g c = puts_nothing _ _ _ (ap text_of_lines (c.in_default.ensures c.args.page.now.turns (counts_of c.args.page.now) c.args.inputs))

pub returns : goal.returns
returns g c =
    let has = c.in-Some.ensures in
    let line : c.as_slice.result.now ≡ last_line c.in-Some.word.now c.args.page.now.turns (counts_of c.args.page.now) c.args.inputs =
    c.as_slice.ensures ∙ c.last_line-line.ensures ∙ (λ i. last_line c.in-Some.word.now (c.turns.ensures i) (c.counts.ensures i) c.args.inputs) in
    puts_same _ _ (line ∙ sym (ap text_of_lines (has.is c.args.page.now.turns (counts_of c.args.page.now) c.args.inputs) ∙ append-nil _)) c.put.ensures
