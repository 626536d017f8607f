use Rattle.std.proofs.Common.{◌≡◌, true, IfOk, subst, sym}
use Rattle.js_reference.specs.Hosted.{hosted}
use Rattle.js_reference.specs.declared.error.ErrorName.TheVariants.{TypeError}
use Rattle.js_tree.specs.Arena.{empty}
use Rattle.js_operands.proofs.Guards.{made_by}
use Rattle.js_operands.specs.ExprMoves.{early_made_of, row_as}
use Rattle.js_operands.specs.Steps.{throws}
use Rattle.js_control.proofs.KeySteps.{early_throw, early_throw_so, others_throw}
use Rattle.js_control.specs.Make.{early_expr, expr_is_early}
use Rattle.js_control.proofs.early_steps.early.Goals as goal

pub early_index-requires-clause-early : goal.early_index-requires-clause-early
early_index-requires-clause-early g c =
    subst (λ r. expr_is_early (row_as empty r) c.args.operands.now.done ≡ true) c.in-AssignIndex.is (c.requires.early empty)

pub returns-in-AssignIndex-clause-value : goal.returns-in-AssignIndex-clause-value
returns-in-AssignIndex-clause-value g c = λ a.
    let w = c.args.heap.now in
    let h = c.args.host.now in
    let e = c.args.operands.now in
    subst (λ r. IfOk c.early_index.result (λ m. early_expr (hosted g.H.Host.rows) w h (row_as a r) e.done
    ≡ early_made_of (row_as a r) c.early_index.new.operands m c.early_index.new.heap h))
    (sym c.in-AssignIndex.is) c.early_index.ensures.value

pub returns-in_default-clause-value : goal.returns-in_default-clause-value
returns-in_default-clause-value g c = λ a.
    let O = hosted g.H.Host.rows in
    let w = c.args.heap.now in
    let w' = c.type_error.new.heap in
    let h = c.args.host.now in
    let e = c.args.operands.now in
    let row = row_as a c.args.row in
    made_by c.type_error.result (early_expr O w h row e.done) (throws TypeError w h)
    (λ m. early_made_of row e m w' h)
    (others_throw O w h a c.args.row e.done c.in_default.not-AssignIndex)
    (early_throw row e e w w' h c.type_error.result (c.type_error.ensures.value empty row e))

pub returns-in_default-clause-shape : goal.returns-in_default-clause-shape
returns-in_default-clause-shape g c =
    let e = c.args.operands.now in
    early_throw_so (row_as empty c.args.row) e e c.args.heap.now c.type_error.new.heap
    c.args.host.now c.type_error.result
    (c.type_error.ensures.value empty (row_as empty c.args.row) e)
