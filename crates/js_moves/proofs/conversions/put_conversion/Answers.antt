use Rattle.std.proofs.Common.{[], sym, subst}
use Rattle.js_host.specs.There.{AreThere}
use Rattle.js_operands.specs.ExprMoves.{conversion_as, conversion_names}
use Rattle.js_operands.specs.declared.expr_move.Conversion.{Conversion}
use Rattle.js_moves.specs.inner.Places.{Puts}
use Rattle.js_moves.specs.inner.Terms.{conversion_term, expression_place}
use Rattle.js_moves.proofs.conversions.put_conversion.Goals as goal

pub returns-in-Fails : goal.returns-in-Fails
returns-in-Fails g c = λ dispatched ts w stands node named.
    let s = c.args.stack.now in
    let P : Conversion → Type 0 = λ k. AreThere w (conversion_names k [])
    → Puts dispatched ts w s.base s.frames.items
    (conversion_term (expression_place ts c.args.site) (conversion_as k))
    c.put_completion.new.stack in
    subst P (sym c.in-Fails.is) (λ a. c.put_completion.ensures dispatched ts w stands a) named
