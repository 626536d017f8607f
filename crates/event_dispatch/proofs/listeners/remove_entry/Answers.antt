use Rattle.std.proofs.Common.{Some, sym, ap, ◌∙◌, arith}
use Rattle.std.proofs.lemmas.Option.{slice_get_within}
use Rattle.std.specs.Option.{option_copied}
use Rattle.event_dispatch.specs.inner.Places.{present}
use Rattle.event_dispatch.proofs.Index.{filter_none, removed_holds}
use Rattle.event_dispatch.proofs.Numbers.{at_number, present_removed}
use Rattle.event_dispatch.proofs.Views.{flat_some, listener_at}
use Rattle.event_dispatch.proofs.listeners.remove_entry.Goals as goal

pub returns-in_default-clause-present : goal.returns-in_default-clause-present
returns-in_default-clause-present c =
    let es = c.args.entries.now.items in
    let there = listener_at es c.deref.result.now c.args.place (option_copied c.at_place.result) c.at_place.ensures c.deref.ensures.value in
    sym (filter_none c.args.place (present es) (at_number es c.args.place c.requires.numbered ∙ there ∙ ap option_copied c.in_default.is))

pub index_mut-requires : goal.index_mut-requires
index_mut-requires c =
    let es = c.args.entries.now.items in
    let there = listener_at es c.deref.result.now c.args.place (option_copied c.at_place.result) c.at_place.ensures c.deref.ensures.value in
    let within = slice_get_within es c.args.place (Some c.in-Some.listener.now) (flat_some _ c.in-Some.listener.now (there ∙ ap option_copied c.in-Some.is)) in
    omega (arith, within, c.args.entries.now.ok.0)

pub returns-clause-holds : goal.returns-clause-holds
returns-clause-holds c =
    let es = c.args.entries.now.items in
    let there = listener_at es c.deref.result.now c.args.place (option_copied c.at_place.result) c.at_place.ensures c.deref.ensures.value in
    removed_holds es c.args.index.now c.forget.new.index c.args.place c.in-Some.listener.now c.requires (flat_some _ c.in-Some.listener.now (there ∙ ap option_copied c.in-Some.is)) c.forget.ensures

pub returns-clause-present : goal.returns-clause-present
returns-clause-present c = present_removed c.args.entries.now.items c.args.place c.requires.numbered
