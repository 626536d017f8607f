use Rattle.std.proofs.Common.{None, ap, refl, ◌∙◌}
use Rattle.js_reference.proofs.There.{still_there, value_stays}
use Rattle.js_reference.specs.Hosted.{hosted}
use Rattle.js_stmt.specs.Wider.{IsWider}
use Rattle.js_calls.specs.Asks.{asks}
use Rattle.js_calls.specs.Calls as calls
use Rattle.js_calls.specs.Entered.{entered_as, function_as}
use Rattle.js_calls.proofs.Joined.{body_entered, ok_both, ok_from}
use Rattle.js_calls.proofs.page_calls.into_call.Goals as goal

pub returns-clause-value : goal.returns-clause-value
returns-clause-value g c = λ a held names.
    let O = hosted g.H.Host.rows in
    let w = c.args.heap.now in
    let h = c.args.host.now in
    let f = function_as a c.args.parts in
    let this = c.called_this-this.result in
    let vs = c.args.arguments.now in
    ok_both c.into_body.result _ _ _
    (λ r is world.
    body_entered O asks w h c.args.code f c.args.parts.scope.now c.args.callee this None vs
    (entered_as a r) w c.into_body.new.heap w refl refl names is world
    ∙ ap (λ u. calls.into_body O asks w h c.args.code f c.args.callee u None vs w)
    c.called_this-this.ensures.is)
    (c.into_body.ensures.is a held) c.into_body.ensures.world

pub returns-clause-there : goal.returns-clause-there
returns-clause-there g c =
    let w = c.args.heap.now in
    let after = c.into_body.new.heap in
    let vs = g.H.Host.names.host c.args.host.now in
    ok_from c.into_body.result (IsWider w after) _ c.into_body.ensures.more
    (λ wide. c.into_body.ensures.there after vs (
      value_stays w after c.called_this-this.result wide.objects c.called_this-this.ensures.there,
      still_there w after vs wide.objects c.requires.host,
    ))
