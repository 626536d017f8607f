use Rattle.std.proofs.Common.{◌≡◌, ◌∙◌, Err, inl, inr, refl, rules}
use Rattle.mug_outside.specs.Told.{TookLess, TookPart}
use Rattle.input_log.specs.Inputs.{inputs_of}
use Rattle.mugshot_cli.specs.ThinPage.Reading.{IsThin}
use Rattle.mugshot_cli.specs.ThinPage.Tracing.{trace_text}
use Rattle.mugshot_cli.proofs.ReplayOutcome.{tell_end, tell_other, tell_run}
use Rattle.mugshot_cli.proofs.replaying.replay_page.Goals as goal

pub returns-in-Ok-None : goal.returns-in-Ok-None
returns-in-Ok-None g c = λ held held' moment moment' disk disk' told. (refl, tell_other held c.args.page.now c.args.budget c.args.items.now told (rw c.in-Ok-None.field-0-is at c.in-Ok-None.ensures))

pub returns-in-Err : goal.returns-in-Err
returns-in-Err g c = λ held held' moment moment' disk disk' told. inl refl

pub returns-in-Ok-print_trace : goal.returns-in-Ok-print_trace
returns-in-Ok-print_trace g c = λ held held' moment moment' disk disk' told.
    let thin : IsThin c.args.page.now c.as_slice.result.now = search rules in
    let inputs : c.as_slice-inputs.result.now ≡ inputs_of c.args.items.now = c.as_slice-inputs.ensures ∙ c.in-Ok.ensures in
    let ran = c.in-Ok-print_trace.ensures in
    rw c.outcome_at.ensures
    (tell_end _ _ _ c.args.page.now c.args.budget c.args.items.now c.as_slice.result.now _ told thin (rw inputs at ran.end) (rw inputs at ran.consumed) (rw inputs at ran.ok))

pub returns-in-Err-WriteFault : goal.returns-in-Err-WriteFault
returns-in-Err-WriteFault g c = λ held held' moment moment' disk disk' told.
    let thin : IsThin c.args.page.now c.as_slice.result.now = search rules in
    let rose = c.in-Err-WriteFault.ensures.rose (λ i. Err (c.in-Err-WriteFault.field-0-is i)) in
    let inputs : c.as_slice-inputs.result.now ≡ inputs_of c.args.items.now = c.as_slice-inputs.ensures ∙ c.in-Ok.ensures in
    let less = rw (c.in-Err-WriteFault.field-0-is, inputs) at c.in-Err-WriteFault.ensures.err in
    (rose, tell_run (λ budget run. TookLess (trace_text run) (g.O.Sink.taken c.args.out.now) (g.O.Sink.taken c.print_trace.new.out)) held c.args.page.now c.args.budget c.args.items.now c.as_slice.result.now told thin less)

pub returns : goal.returns
returns g c = λ held held' moment moment' disk disk' told.
    let thin : IsThin c.args.page.now c.as_slice.result.now = search rules in
    let inputs : c.as_slice-inputs.result.now ≡ inputs_of c.args.items.now = c.as_slice-inputs.ensures ∙ c.in-Ok.ensures in
    let part = rw (c.in-Err-NoMemory.field-0-is, inputs) at c.in-Err-NoMemory.ensures.err in
    inr (tell_run (λ budget run. TookPart (trace_text run) (g.O.Sink.taken c.args.out.now) (g.O.Sink.taken c.print_trace.new.out)) held c.args.page.now c.args.budget c.args.items.now c.as_slice.result.now told thin part)
