use Rattle.std.proofs.Common.{sym}
use Rattle.std.proofs.lemmas.List.{take_rest}
use Rattle.html_profile.proofs.Places.{place_later}
use Rattle.html_profile.proofs.mark.Mark.place.Goals as goal

pub loop-index-preserved : goal.loop-index-preserved
loop-index-preserved c = place_later c.args.self c.args.text.now c.loop-index.index c.loop-index-test.true c.loop-index.invariant (rw take_rest at (sym c.if-stands.ensures))
