use Rattle.std.proofs.Common.{find, sym, ap, ◌∙◌, arith}
use Rattle.std.proofs.lemmas.List.{take_all}
use Rattle.std.specs.Option.{option_copied}
use Rattle.event_dispatch.specs.Listeners.{is_callback}
use Rattle.event_dispatch.specs.inner.Places.{at_places}
use Rattle.event_dispatch.proofs.Loops.{found_more, none_found, none_more, same_some}
use Rattle.event_dispatch.proofs.listeners.callback_among.Goals as goal

pub loop-place-preserved : goal.loop-place-preserved
loop-place-preserved c =
    none_more (is_callback c.args.kind.now c.args.f.now c.args.capture) c.args.entries.now c.args.places.now c.loop-place.place-index (omega arith) c.loop-place.invariant
    (none_found (is_callback c.args.kind.now c.args.f.now c.args.capture) (option_copied c.callback_at-found.result) _ c.callback_at-found.ensures (same_some c.callback_at-found.result ∙ sym c.is_some.ensures ∙ c.if-is_some.false))

pub returns-then-is_some : goal.returns-then-is_some
returns-then-is_some c =
    found_more (is_callback c.args.kind.now c.args.f.now c.args.capture) c.args.entries.now c.args.places.now c.loop-place.place-index (option_copied c.callback_at-found.result) (omega arith) c.loop-place.invariant c.callback_at-found.ensures (same_some c.callback_at-found.result ∙ sym c.is_some.ensures ∙ c.if-is_some.true)

pub returns : goal.returns
returns c = sym (ap (λ ps. find (is_callback c.args.kind.now c.args.f.now c.args.capture) (at_places c.args.entries.now ps)) (sym (take_all c.loop-place.place-index c.args.places.now (omega arith))) ∙ c.loop-place.invariant)
