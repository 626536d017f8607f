use Rattle.std.proofs.Common.{◌≡◌, ◌∙◌, false, refl}
use Rattle.mugshot_cli.proofs.LaterKinds.{tell_judged, tell_lost}
use Rattle.mugshot_cli.proofs.damage.is_unbuilt.Goals as goal

pub returns-in-Frame-clause-told : goal.returns-in-Frame-clause-told
returns-in-Frame-clause-told g c =
    let told = rw c.in-Frame.is at c.in_ok-next.ensures.told in
    let payload : c.deref.result.now ≡ c.next.new.payload.items = c.deref.ensures.value in
    tell_judged _ _ c.args.at c.at-reader.result c.next.new.self c.next.new.payload.items c.in_ok-unbuilt-in-Frame.unbuilt (c.at-reader.ensures ∙ c.saturating_sub.ensures) refl told (rw payload at c.in_ok-unbuilt-in-Frame.ensures)

pub returns-clause-told : goal.returns-clause-told
returns-clause-told g c =
    let told = rw c.in-End.is at c.in_ok-next.ensures.told in
    tell_lost _ _ c.args.at c.at-reader.result false (c.at-reader.ensures ∙ c.saturating_sub.ensures) refl told
