use Rattle.std.proofs.Common.{refl, ap}
use Rattle.js_operands.specs.ExprMoves.{values_coming}
use Rattle.js_operands.proofs.Operands.{added_names}
use Rattle.js_operands.proofs.moves.read_target.Goals as goal

pub returns-in_ok-add_value-in-Returns-clause-there : goal.returns-in_ok-add_value-in-Returns-clause-there
returns-in_ok-add_value-in-Returns-clause-there g c = λ w vs a.
    added_names w c.args.answered c.in-Returns.value c.args.operands.now c.add_value.new.operands vs c.in-Returns.is c.requires c.in_ok-add_value-in-Returns.ensures a

pub returns-in_ok-add_value-in-Returns-clause-shape : goal.returns-in_ok-add_value-in-Returns-clause-shape
returns-in_ok-add_value-in-Returns-clause-shape g c =
    (refl, ap (λ e. values_coming e.todo) c.in_ok-add_value-in-Returns.ensures)
