use Rattle.std.proofs.Common.{[], ◌∷◌, ◌++◌, ap, sym, ◌∙◌}
use Rattle.js_frames.specs.inner.Advances.{front}
use Rattle.js_frames.proofs.Tops.{push-view}
use Rattle.js_moves.specs.inner.ExprPlaces.{behind}
use Rattle.js_moves.proofs.expressions.go_on_in.Goals as goal

pub returns-in_default-clause-frames : goal.returns-in_default-clause-frames
returns-in_default-clause-frames g c = λ f is.
    let xs = c.args.stack.now.frames.items in
    push-view xs f is ∙ ap (λ o. front xs ++ behind f o ∷ []) (sym c.in_default.is)
