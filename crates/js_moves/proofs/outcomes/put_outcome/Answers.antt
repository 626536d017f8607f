use Rattle.std.proofs.Common.{[], ap, sym, subst}
use Rattle.js_host.specs.Asking.{goes_on}
use Rattle.js_host.specs.Names.{outcome_names}
use Rattle.js_host.specs.There.{AreThere}
use Rattle.js_host.specs.declared.call.Outcome.{Outcome}
use Rattle.js_moves.specs.inner.FormPlaces.{PutsOutcome}
use Rattle.js_moves.proofs.FormsPut.{ok_any}
use Rattle.js_moves.proofs.outcomes.put_outcome.Goals as goal

pub returns-in-Value-clause-puts : goal.returns-in-Value-clause-puts
returns-in-Value-clause-puts g c = λ dispatched ts w stands there.
    let s = c.args.stack.now in
    let named = subst (λ (o : Outcome). AreThere w (outcome_names o [])) c.in-Value.is there in
    subst (λ (o : Outcome). PutsOutcome dispatched ts w s.base s.frames.items
    c.put_value.new.stack o) (sym c.in-Value.is)
    (c.put_value.ensures dispatched ts w stands named.0)

pub returns-in-Throw-clause-puts : goal.returns-in-Throw-clause-puts
returns-in-Throw-clause-puts g c = λ dispatched ts w stands there.
    let s = c.args.stack.now in
    let named = subst (λ (o : Outcome). AreThere w (outcome_names o [])) c.in-Throw.is there in
    subst (λ (o : Outcome). PutsOutcome dispatched ts w s.base s.frames.items
    c.put_completion.new.stack o) (sym c.in-Throw.is)
    (c.put_completion.ensures dispatched ts w stands named)

pub returns-in-Enter-clause-goes_on : goal.returns-in-Enter-clause-goes_on
returns-in-Enter-clause-goes_on g c = ok_any c.put_wait.result (ap goes_on c.in-Enter.is)
