use Rattle.std.proofs.Common.{◌≡◌, ◌∷◌, Some, ap, refl, subst, sym, ◌∙◌}
use Rattle.js_value.specs.declared.value.Value.TheVariants as value
use Rattle.js_heap.specs.Closed.{IsThere}
use Rattle.js_heap.specs.Objects.{with_object}
use Rattle.js_heap.specs.declared.class.Class.TheVariants as class
use Rattle.js_reference.proofs.There.{still_there, value_stays}
use Rattle.js_reference.specs.Errors.{next_object}
use Rattle.js_reference.specs.Hosted.{hosted}
use Rattle.js_stmt.specs.Wider.{IsWider}
use Rattle.js_calls.specs.Asks.{asks}
use Rattle.js_calls.specs.Calls as calls
use Rattle.js_calls.specs.Entered.{entered_as, function_as}
use Rattle.js_calls.proofs.CallSteps.{there_later}
use Rattle.js_calls.proofs.Joined.{body_entered, ok_both, ok_from}
use Rattle.js_calls.proofs.page_calls.into_new.Goals as goal

pub into_body-requires-clause-there : goal.into_body-requires-clause-there
into_body-requires-clause-there g c =
    there_later c.args.heap.now c.made_object.new.heap (c.args.callee ∷ c.args.arguments.now)
    c.in_ok-made.ensures.later c.requires.there

pub returns-clause-value : goal.returns-clause-value
returns-clause-value g c = λ a held names.
    let O = hosted g.H.Host.rows in
    let w = c.args.heap.now in
    let h = c.args.host.now in
    let f = function_as a c.args.parts in
    let this = c.in_ok-this.this in
    let made = c.in_ok-made.made in
    let vs = c.args.arguments.now in
    let new = value.Ref (next_object w) in
    let v = with_object w class.Object (Some (calls.prototype_by O asks w h c.args.callee)) in
    let made_is : made ≡ new = c.in_ok-made.ensures.is in
    let this_is : this ≡ new = c.in_ok-this.ensures ∙ made_is in
    ok_both c.into_body.result _ _ _
    (λ r is world.
    body_entered O asks w h c.args.code f c.args.parts.scope.now c.args.callee this (Some made) vs
    (entered_as a r) c.made_object.new.heap c.into_body.new.heap v c.in_ok-made.ensures.made refl
    names is world
    ∙ ap (λ u. calls.into_body O asks w h c.args.code f c.args.callee u (Some made) vs v) this_is
    ∙ ap (λ u. calls.into_body O asks w h c.args.code f c.args.callee new (Some u) vs v) made_is)
    (c.into_body.ensures.is a held) c.into_body.ensures.world

pub returns-clause-there : goal.returns-clause-there
returns-clause-there g c =
    let w = c.args.heap.now in
    let between = c.made_object.new.heap in
    let after = c.into_body.new.heap in
    let vs = g.H.Host.names.host c.args.host.now in
    let made = c.in_ok-made.made in
    let this = c.in_ok-this.this in
    let made_there = c.in_ok-made.ensures.there in
    let this_there = subst (IsThere between) (sym c.in_ok-this.ensures) made_there in
    let held = still_there w between vs c.in_ok-made.ensures.later.objects c.requires.host in
    ok_from c.into_body.result (IsWider between after) _ c.into_body.ensures.more
    (λ wide. c.into_body.ensures.there after vs (
      value_stays between after this wide.objects this_there,
      (
        value_stays between after made wide.objects made_there,
        still_there between after vs wide.objects held,
      ),
    ))
