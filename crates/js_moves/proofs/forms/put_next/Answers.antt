use Rattle.std.proofs.Common.{sym, subst}
use Rattle.js_host.specs.declared.call.NextCall.{NextCall}
use Rattle.js_moves.specs.inner.FormPlaces.{next_term}
use Rattle.js_moves.specs.inner.Places.{Puts}
use Rattle.js_moves.proofs.forms.put_next.Goals as goal

pub returns-in-End : goal.returns-in-End
returns-in-End g c = λ dispatched ts w stands there.
    let s = c.args.stack.now in
    subst (λ (n : NextCall). Puts dispatched ts w s.base s.frames.items
    (next_term c.args.dispatch n) c.put_value.new.stack) (sym c.in-End.is)
    (c.put_value.ensures dispatched ts w stands tt)
