use Rattle.std.proofs.Common.{sym, ap, ◌∙◌, arith}
use Rattle.std.proofs.lemmas.Option.{slice_get_read}
use Rattle.std.specs.Option.{option_flatten}
use Rattle.event_dispatch.specs.inner.Places.{with_function_in}
use Rattle.event_dispatch.proofs.Views.{set_own}
use Rattle.event_dispatch.proofs.listeners.replace_entry.Goals as goal

pub returns-in_default : goal.returns-in_default
returns-in_default c =
    let es = c.args.entries.now.items in
    let x = c.index_mut.result.now in
    let read = slice_get_read es c.len.result c.args.place x (c.len.ensures ∙ c.args.entries.now.ok.0) (omega arith) c.index_mut.ensures.value in
    set_own es c.args.place x read ∙ sym (ap (λ o. with_function_in (option_flatten o) c.args.place c.args.f es) read ∙ ap (λ o. with_function_in o c.args.place c.args.f es) c.in_default.is)
