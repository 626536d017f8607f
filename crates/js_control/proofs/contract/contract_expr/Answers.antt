use Rattle.js_term.specs.Place.Place.{At}
use Rattle.js_operands.specs.ExprMoves.{row_as}
use Rattle.js_operands.specs.Shapes.{next_phase}
use Rattle.js_control.proofs.contract.contract_expr.Goals as goal

pub returns-in-Literal-clause-value : goal.returns-in-Literal-clause-value
returns-in-Literal-clause-value g c = λ a. c.literal.ensures.value a

pub returns-in-Literal-clause-shape : goal.returns-in-Literal-clause-shape
returns-in-Literal-clause-shape g c = λ a.
    let e = c.args.operands.now in
    c.literal.ensures.shape (next_phase (row_as a c.args.row)) e e

pub returns-in-Access-clause-value : goal.returns-in-Access-clause-value
returns-in-Access-clause-value g c = λ a.
    let at = At c.args.text c.args.unit in
    c.access.ensures.value a at

pub returns-in-Access-clause-shape : goal.returns-in-Access-clause-shape
returns-in-Access-clause-shape g c = λ a. c.access.ensures.shape a

pub returns-in-Call-clause-value : goal.returns-in-Call-clause-value
returns-in-Call-clause-value g c = λ a.
    let at = At c.args.text c.args.unit in
    c.request.ensures.value a at c.args.at.now

pub returns-in-Call-clause-shape : goal.returns-in-Call-clause-shape
returns-in-Call-clause-shape g c = λ a. c.request.ensures.shape a

pub returns-in-Operator-clause-value : goal.returns-in-Operator-clause-value
returns-in-Operator-clause-value g c = λ a.
    let at = At c.args.text c.args.unit in
    c.operate_on.ensures.value a at c.args.at.now

pub returns-in-Operator-clause-shape : goal.returns-in-Operator-clause-shape
returns-in-Operator-clause-shape g c = λ a. c.operate_on.ensures.shape a

pub returns-in-Choice-clause-value : goal.returns-in-Choice-clause-value
returns-in-Choice-clause-value g c = λ a.
    let at = At c.args.text c.args.unit in
    c.choose.ensures.value a at c.args.at.now c.args.heap.now c.args.host.now

pub returns-in-Choice-clause-shape : goal.returns-in-Choice-clause-shape
returns-in-Choice-clause-shape g c = λ a.
    let e = c.args.operands.now in
    c.choose.ensures.shape (next_phase (row_as a c.args.row)) e e

pub returns-in-Revision-clause-value : goal.returns-in-Revision-clause-value
returns-in-Revision-clause-value g c = λ a.
    let at = At c.args.text c.args.unit in
    c.revise.ensures.value a at

pub returns-in-Revision-clause-shape : goal.returns-in-Revision-clause-shape
returns-in-Revision-clause-shape g c = λ a. c.revise.ensures.shape a

pub returns-in-Update-clause-value : goal.returns-in-Update-clause-value
returns-in-Update-clause-value g c = λ a.
    let at = At c.args.text c.args.unit in
    c.update.ensures.value a at

pub returns-in-Update-clause-shape : goal.returns-in-Update-clause-shape
returns-in-Update-clause-shape g c = λ a. c.update.ensures.shape a

pub returns-in-Write-clause-value : goal.returns-in-Write-clause-value
returns-in-Write-clause-value g c = λ a.
    let at = At c.args.text c.args.unit in
    c.write_target.ensures.value a at

pub returns-in-Write-clause-shape : goal.returns-in-Write-clause-shape
returns-in-Write-clause-shape g c = λ a. c.write_target.ensures.shape a
