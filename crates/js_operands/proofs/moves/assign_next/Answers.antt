use Rattle.std.proofs.Common.{refl, ap}
use Rattle.js_operands.specs.ExprMoves.{values_coming}
use Rattle.js_operands.proofs.Operands.{added_first}
use Rattle.js_operands.proofs.moves.assign_next.Goals as goal

pub returns-in_ok-add_value-in-Returns-clause-there : goal.returns-in_ok-add_value-in-Returns-clause-there
returns-in_ok-add_value-in-Returns-clause-there g c = λ w vs a.
    added_first w c.args.answered c.in-Returns.value c.args.count c.args.operands.now c.in_ok-operands-in-Returns.field-0 c.add_value.new.operands vs
    c.in-Returns.is c.requires c.in_ok-operands-in-Returns.ensures c.in_ok-add_value-in-Returns.ensures a

pub returns-in_ok-add_value-in-Returns-clause-shape : goal.returns-in_ok-add_value-in-Returns-clause-shape
returns-in_ok-add_value-in-Returns-clause-shape g c =
    (refl, ap (λ e. values_coming e.todo) c.in_ok-add_value-in-Returns.ensures)
