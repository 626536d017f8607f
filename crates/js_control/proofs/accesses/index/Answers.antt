use Rattle.std.proofs.Common.{◌∙◌}
use Rattle.js_ops.specs.Convert.{to_text}
use Rattle.js_reference.specs.Properties.{read}
use Rattle.js_reference.specs.Hosted.{hosted}
use Rattle.js_operands.proofs.Guards.{given_of}
use Rattle.js_operands.specs.Conversions.{keyed}
use Rattle.js_operands.specs.Rows.{ExprRow}
use Rattle.js_operands.specs.Steps.{gives, operand_at}
use Rattle.js_operands.proofs.Shaped.{moved_so}
use Rattle.js_control.proofs.accesses.index.Goals as goal

pub returns-in-Gives-clause-value : goal.returns-in-Gives-clause-value
returns-in-Gives-clause-value g c = λ a.
    let O = hosted g.H.Host.rows in
    let w = c.args.heap.now in
    let h = c.args.host.now in
    let e = c.args.operands.now in
    let vs = e.done in
    let e' = c.read_keyed.new.operands in
    let w' = c.read_keyed.new.heap in
    let op = read O w h (operand_at vs 0) (to_text (operand_at vs 1)) in
    let given = given_of (λ r made. keyed O w h r vs made) op e e' w' h c.in_ok-moved.field-0 c.in-Gives.answered c.in-Gives.is c.in_ok-moved.ensures.value in
    given.made ExprRow.Index gives ∙ c.given.ensures.made a ExprRow.Index e' w' h

pub returns-in-Moves-clause-shape : goal.returns-in-Moves-clause-shape
returns-in-Moves-clause-shape g c = λ n.
    moved_so n c.args.operands.now c.read_keyed.new.operands c.in-Moves.moved c.in_ok-moved.field-0 c.in-Moves.is (c.in_ok-moved.ensures.shape n)

pub returns-in-Gives-clause-shape : goal.returns-in-Gives-clause-shape
returns-in-Gives-clause-shape g c = λ n.
    c.given.ensures.shape n c.args.operands.now c.read_keyed.new.operands
