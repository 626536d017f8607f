use Rattle.std.proofs.Common.{◌≡◌, IfOk, ap, subst, sym}
use Rattle.std.proofs.lemmas.Result.{IfOk-weaker}
use Rattle.js_term.specs.Place.Place.{At}
use Rattle.js_operands.specs.ExprMoves.{made_of, row_as}
use Rattle.js_operands.specs.Hosted.{facts}
use Rattle.js_operands.specs.declared.row.ExprRow as code_row
use Rattle.js_operands.specs.declared.row.ExprRow.TheVariants as code
use Rattle.js_control.specs.Make.{made_expr}
use Rattle.js_control.proofs.contract.literal.Goals as goal

pub returns-in-This-clause-value : goal.returns-in-This-clause-value
returns-in-This-clause-value g c = λ a.
    let F = facts g.H.Host.rows in
    let e = c.args.operands.now in
    let w = c.args.heap.now in
    let h = c.args.host.now in
    let P : code_row.ExprRow → Type 0 = λ r. IfOk c.this.result (λ m.
    made_expr F (At c.args.text c.args.unit) c.args.at.now w h (row_as a r) e.done
    ≡ made_of a (row_as a r) e m w h) in
    subst P (sym c.in-This.is) (IfOk-weaker c.this.result _ _
    (λ m is. ap (λ x. made_of a (row_as a code.This) e x w h) (sym is)) c.this.ensures.value)

pub returns-in-Array-clause-value : goal.returns-in-Array-clause-value
returns-in-Array-clause-value g c = λ a.
    let F = facts g.H.Host.rows in
    let e = c.args.operands.now in
    let w = c.args.heap.now in
    let h = c.args.host.now in
    let P : code_row.ExprRow → Type 0 = λ r. IfOk c.array.result (λ m.
    made_expr F (At c.args.text c.args.unit) c.args.at.now w h (row_as a r) e.done
    ≡ made_of a (row_as a c.args.row) e m c.array.new.heap h) in
    subst P (sym c.in-Array.is) (c.array.ensures.value a (row_as a c.args.row))

pub returns-in-Object-clause-value : goal.returns-in-Object-clause-value
returns-in-Object-clause-value g c = λ a.
    let F = facts g.H.Host.rows in
    let e = c.args.operands.now in
    let w = c.args.heap.now in
    let h = c.args.host.now in
    let P : code_row.ExprRow → Type 0 = λ r. IfOk c.object.result (λ m.
    made_expr F (At c.args.text c.args.unit) c.args.at.now w h (row_as a r) e.done
    ≡ made_of a (row_as a c.args.row) e m c.object.new.heap h) in
    subst P (sym c.in-Object.is) (c.object.ensures.value a (row_as a c.args.row))

pub returns-in-Function-clause-value : goal.returns-in-Function-clause-value
returns-in-Function-clause-value g c = λ a.
    let F = facts g.H.Host.rows in
    let e = c.args.operands.now in
    let w = c.args.heap.now in
    let h = c.args.host.now in
    let P : code_row.ExprRow → Type 0 = λ r. IfOk c.function.result (λ m.
    made_expr F (At c.args.text c.args.unit) c.args.at.now w h (row_as a r) e.done
    ≡ made_of a (row_as a c.args.row) e m c.function.new.heap h) in
    subst P (sym c.in-Function.is) (c.function.ensures.value a (row_as a c.args.row) e)
