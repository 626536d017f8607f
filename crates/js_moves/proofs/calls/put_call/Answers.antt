use Rattle.std.proofs.Common.{List, [], ◌∷◌, ap, ◌∙◌, ◌++◌}
use Rattle.js_value.specs.declared.value.Value.{Value}
use Rattle.js_term.specs.Evaluation.{Evaluation}
use Rattle.js_moves.proofs.FormsPut.{call-put}
use Rattle.js_moves.proofs.calls.put_call.Goals as goal

abbrev values : Evaluation → List Value → Evaluation
values e vs = record { done = e.done ++ vs; todo = [] }

pub returns : goal.returns
returns g c = λ dispatched ts w stands node there.
    call-put g.row.D.Denot dispatched ts w c.put_frame.result c.args.stack.now
    c.put_frame.new.stack c.expression_frame.result c.args.site
    (c.args.f ∷ c.args.this ∷ c.args.args.now) c.push_values.new.operands
    c.expression_frame.ensures
    (c.in_ok-push_values.ensures
    ∙ ap (λ e. values e c.args.args.now) c.in_ok-operands.ensures)
    node there (c.put_frame.ensures dispatched ts w stands)
