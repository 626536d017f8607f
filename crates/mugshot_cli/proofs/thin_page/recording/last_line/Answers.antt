use Rattle.std.proofs.Common.{◌≡◌, ◌∙◌, ap, sym, length}
use Rattle.mugshot_cli.specs.ThinPage.Machine.{State, counts_of}
use Rattle.mugshot_cli.specs.ThinPage.Run.{Run}
use Rattle.mugshot_cli.proofs.RecordingEnds.{summary_is}
use Rattle.mugshot_cli.proofs.thin_page.recording.last_line.Goals as goal

pub returns : goal.returns
returns c = λ whole frames ended count inputs_are frames_are.
    let last : c.args.run.now.state ≡ whole.last = sym (ended.alike.last_is ∙ ap (λ (r : Run). r.last) ended.end_is) in
    let turns = c.turns.ensures ∙ ap (λ (s : State). s.turns) (c.page.ensures ∙ last) in
    let counts = c.counts.ensures ∙ ap counts_of c.page-2.ensures ∙ sym (ended.alike.counts_are ∙ ap (λ (r : Run). r.counts) ended.end_is) in
    let dropped = sym (ended.alike.dropped_is ∙ ap (λ (r : Run). r.dropped) ended.end_is) in
    summary_is whole (length frames) c.line.result c.end_of.result c.turns.result 0 c.counts.result c.inputs.result c.frames.result c.line.ensures (c.end_of.ensures whole ended)
    turns dropped counts (c.inputs.ensures ∙ inputs_are ∙ count) (c.frames.ensures ∙ frames_are)
