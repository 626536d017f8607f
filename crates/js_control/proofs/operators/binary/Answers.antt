use Rattle.std.proofs.Common.{◌∙◌}
use Rattle.js_operations.specs.Operations.{operate, operation}
use Rattle.js_reference.specs.Hosted.{hosted}
use Rattle.js_operands.proofs.Guards.{given_of}
use Rattle.js_operands.specs.Conversions.{prepared}
use Rattle.js_control.specs.Operators.{operator_wants}
use Rattle.js_operands.specs.Rows.{ExprRow}
use Rattle.js_operands.specs.Steps.{gives, operand_at}
use Rattle.js_operands.proofs.Shaped.{moved_so}
use Rattle.js_control.proofs.operators.binary.Goals as goal

pub returns-in-Gives-clause-value : goal.returns-in-Gives-clause-value
returns-in-Gives-clause-value g c = λ a.
    let O = hosted g.H.Host.rows in
    let w = c.args.heap.now in
    let h = c.args.host.now in
    let e = c.args.operands.now in
    let vs = e.done in
    let e' = c.operated.new.operands in
    let w' = c.operated.new.heap in
    let o = c.args.operator in
    let op = operate O w h (operation o) (operand_at vs 0) (operand_at vs 1) in
    let wants = operator_wants 0 o (operand_at vs 0) (operand_at vs 1) in
    let given = given_of (λ r made. prepared O w h r wants vs made) op e e' w' h c.in_ok-moved.field-0 c.in-Gives.answered c.in-Gives.is c.in_ok-moved.ensures.value in
    given.made (ExprRow.Binary o) gives ∙ c.given.ensures.made a (ExprRow.Binary o) e' w' h

pub returns-in-Moves-clause-shape : goal.returns-in-Moves-clause-shape
returns-in-Moves-clause-shape g c = λ n.
    moved_so n c.args.operands.now c.operated.new.operands c.in-Moves.moved c.in_ok-moved.field-0 c.in-Moves.is (c.in_ok-moved.ensures.shape n)

pub returns-in-Gives-clause-shape : goal.returns-in-Gives-clause-shape
returns-in-Gives-clause-shape g c = λ n.
    c.given.ensures.shape n c.args.operands.now c.operated.new.operands
