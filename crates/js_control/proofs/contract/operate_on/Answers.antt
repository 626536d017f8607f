use Rattle.std.proofs.Common.{◌≡◌, IfOk, subst, sym}
use Rattle.js_operands.specs.ExprMoves.{made_of, row_as}
use Rattle.js_operands.specs.Hosted.{facts}
use Rattle.js_operands.specs.Shapes.{next_phase}
use Rattle.js_operands.specs.declared.row.ExprRow as code_row
use Rattle.js_control.specs.Make.{made_expr}
use Rattle.js_control.proofs.contract.operate_on.Goals as goal

pub returns-in-Unary-clause-value : goal.returns-in-Unary-clause-value
returns-in-Unary-clause-value g c = λ a p k.
    let F = facts g.H.Host.rows in
    let e = c.args.operands.now in
    let w = c.args.heap.now in
    let h = c.args.host.now in
    let P : code_row.ExprRow → Type 0 = λ r. IfOk c.unary.result (λ m.
    made_expr F p k w h (row_as a r) e.done
    ≡ made_of a (row_as a r) c.unary.new.operands m c.unary.new.heap h) in
    subst P (sym c.in-Unary.is) (c.unary.ensures.value a)

pub returns-in-Unary-clause-shape : goal.returns-in-Unary-clause-shape
returns-in-Unary-clause-shape g c = λ a.
    c.unary.ensures.shape (next_phase (row_as a c.args.row))

pub returns-in-Binary-clause-value : goal.returns-in-Binary-clause-value
returns-in-Binary-clause-value g c = λ a p k.
    let F = facts g.H.Host.rows in
    let e = c.args.operands.now in
    let w = c.args.heap.now in
    let h = c.args.host.now in
    let P : code_row.ExprRow → Type 0 = λ r. IfOk c.binary.result (λ m.
    made_expr F p k w h (row_as a r) e.done
    ≡ made_of a (row_as a r) c.binary.new.operands m c.binary.new.heap h) in
    subst P (sym c.in-Binary.is) (c.binary.ensures.value a)

pub returns-in-Binary-clause-shape : goal.returns-in-Binary-clause-shape
returns-in-Binary-clause-shape g c = λ a.
    c.binary.ensures.shape (next_phase (row_as a c.args.row))

pub returns-in-Convert-clause-value : goal.returns-in-Convert-clause-value
returns-in-Convert-clause-value g c = λ a p k.
    let F = facts g.H.Host.rows in
    let e = c.args.operands.now in
    let w = c.args.heap.now in
    let h = c.args.host.now in
    let P : code_row.ExprRow → Type 0 = λ r. IfOk c.convert_row.result (λ m.
    made_expr F p k w h (row_as a r) e.done
    ≡ made_of a (row_as a c.args.row) e m c.convert_row.new.heap h) in
    subst P (sym c.in-Convert.is) (c.convert_row.ensures.value a (row_as a c.args.row))

pub returns-in-Convert-clause-shape : goal.returns-in-Convert-clause-shape
returns-in-Convert-clause-shape g c = λ a.
    let e = c.args.operands.now in
    c.convert_row.ensures.shape (next_phase (row_as a c.args.row)) e e

pub returns-in-Converting-clause-value : goal.returns-in-Converting-clause-value
returns-in-Converting-clause-value g c = λ a p k.
    let F = facts g.H.Host.rows in
    let e = c.args.operands.now in
    let w = c.args.heap.now in
    let h = c.args.host.now in
    let P : code_row.ExprRow → Type 0 = λ r. IfOk c.converting_row.result (λ m.
    made_expr F p k w h (row_as a r) e.done
    ≡ made_of a (row_as a c.args.row) e m c.converting_row.new.heap h) in
    subst P (sym c.in-Converting.is) (c.converting_row.ensures.value a (row_as a c.args.row))

pub returns-in-Converting-clause-shape : goal.returns-in-Converting-clause-shape
returns-in-Converting-clause-shape g c = λ a.
    let e = c.args.operands.now in
    c.converting_row.ensures.shape (next_phase (row_as a c.args.row)) e e
