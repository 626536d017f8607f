use Rattle.std.proofs.Common.{◌∷◌, ◌++◌, [], None, ◌∙◌, ap, refl}
use Rattle.js_pieces.proofs.Declaring.{if_more, scoped_as}
use Rattle.js_pieces.proofs.functions.handler_scope.Goals as goal

pub returns : goal.returns
returns c =
    if_more c.call_scope.result _ _
    (λ s f b t h. scoped_as s c.args.script.now.kept c.as_slice.result.now _ None None c.args.statements.now
    c.args.statements.now (c.as_slice.ensures ∙ c.in_ok-push.ensures.ok ∙
    ap (λ z. z ++ c.in_ok-event.event ∷ []) c.new-parameters.ensures ∙ ap (λ z. z ∷ []) c.in_ok-event.ensures)
    refl refl f b t h) c.call_scope.ensures
