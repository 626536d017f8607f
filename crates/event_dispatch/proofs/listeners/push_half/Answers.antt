use Rattle.std.proofs.Common.{◌++◌, filter, get_or, map, sym, ap, ◌∙◌, arith}
use Rattle.std.proofs.lemmas.List.{append_assoc, take_all}
use Rattle.event_dispatch.specs.Dispatch.{pending}
use Rattle.event_dispatch.specs.Listeners.{is_called}
use Rattle.event_dispatch.specs.inner.Places.{at_places, one_at, pended}
use Rattle.event_dispatch.proofs.Loops.{pended_more}
use Rattle.event_dispatch.proofs.listeners.push_half.Goals as goal

pub loop-place-preserved : goal.loop-place-preserved
loop-place-preserved c =
    let one = pended c.args.phase c.args.kind.now c.args.down (one_at c.args.entries.now (get_or c.args.places.now c.loop-place.place-index 0)) in
    let more = pended_more (pending c.args.phase) (is_called c.args.kind.now c.args.down) c.args.entries.now c.args.places.now c.loop-place.place-index (omega arith) in
    c.in_ok-push_called.ensures ∙ ap (λ xs. xs ++ one) c.loop-place.invariant ∙ append_assoc c.args.copy.now.items _ _ ∙ ap (λ xs. c.args.copy.now.items ++ xs) (sym more)

pub returns : goal.returns
returns c =
    c.loop-place.invariant ∙ ap (λ ps. c.args.copy.now.items ++ map (pending c.args.phase) (filter (is_called c.args.kind.now c.args.down) (at_places c.args.entries.now ps))) (take_all c.loop-place.place-index c.args.places.now (omega arith))
