use Rattle.std.proofs.Common.{◌≡◌, IfOk, subst, sym}
use Rattle.js_operands.specs.ExprMoves.{made_of, row_as}
use Rattle.js_operands.specs.Hosted.{facts}
use Rattle.js_operands.specs.Shapes.{next_phase}
use Rattle.js_operands.specs.declared.row.ExprRow as code_row
use Rattle.js_control.specs.Make.{made_expr}
use Rattle.js_control.proofs.contract.access.Goals as goal

pub returns-in-Name-clause-value : goal.returns-in-Name-clause-value
returns-in-Name-clause-value g c = λ a p.
    let F = facts g.H.Host.rows in
    let e = c.args.operands.now in
    let w = c.args.heap.now in
    let h = c.args.host.now in
    let P : code_row.ExprRow → Type 0 = λ r. IfOk c.name.result (λ m.
    made_expr F p c.args.at.now w h (row_as a r) e.done
    ≡ made_of a (row_as a c.args.row) e m c.name.new.heap h) in
    subst P (sym c.in-Name.is) (c.name.ensures.value a (row_as a c.args.row))

pub returns-in-Name-clause-shape : goal.returns-in-Name-clause-shape
returns-in-Name-clause-shape g c = λ a.
    let e = c.args.operands.now in
    c.name.ensures.shape (next_phase (row_as a c.args.row)) e e

pub returns-in-Member-clause-value : goal.returns-in-Member-clause-value
returns-in-Member-clause-value g c = λ a p.
    let F = facts g.H.Host.rows in
    let e = c.args.operands.now in
    let w = c.args.heap.now in
    let h = c.args.host.now in
    let P : code_row.ExprRow → Type 0 = λ r. IfOk c.member.result (λ m.
    made_expr F p c.args.at.now w h (row_as a r) e.done
    ≡ made_of a (row_as a c.args.row) e m c.member.new.heap h) in
    subst P (sym c.in-Member.is) (c.member.ensures.value a (row_as a c.args.row))

pub returns-in-Member-clause-shape : goal.returns-in-Member-clause-shape
returns-in-Member-clause-shape g c = λ a.
    let e = c.args.operands.now in
    c.member.ensures.shape (next_phase (row_as a c.args.row)) e e

pub returns-in-Index-clause-value : goal.returns-in-Index-clause-value
returns-in-Index-clause-value g c = λ a p.
    let F = facts g.H.Host.rows in
    let e = c.args.operands.now in
    let w = c.args.heap.now in
    let h = c.args.host.now in
    let P : code_row.ExprRow → Type 0 = λ r. IfOk c.index.result (λ m.
    made_expr F p c.args.at.now w h (row_as a r) e.done
    ≡ made_of a (row_as a r) c.index.new.operands m c.index.new.heap h) in
    subst P (sym c.in-Index.is) (c.index.ensures.value a)

pub returns-in-Index-clause-shape : goal.returns-in-Index-clause-shape
returns-in-Index-clause-shape g c = λ a.
    c.index.ensures.shape (next_phase (row_as a c.args.row))

pub returns-in-DeleteMember-clause-value : goal.returns-in-DeleteMember-clause-value
returns-in-DeleteMember-clause-value g c = λ a p.
    let F = facts g.H.Host.rows in
    let e = c.args.operands.now in
    let w = c.args.heap.now in
    let h = c.args.host.now in
    let P : code_row.ExprRow → Type 0 = λ r. IfOk c.delete_member.result (λ m.
    made_expr F p c.args.at.now w h (row_as a r) e.done
    ≡ made_of a (row_as a c.args.row) e m c.delete_member.new.heap h) in
    subst P (sym c.in-DeleteMember.is) (c.delete_member.ensures.value a (row_as a c.args.row))

pub returns-in-DeleteMember-clause-shape : goal.returns-in-DeleteMember-clause-shape
returns-in-DeleteMember-clause-shape g c = λ a.
    let e = c.args.operands.now in
    c.delete_member.ensures.shape (next_phase (row_as a c.args.row)) e e

pub returns-in-DeleteIndex-clause-value : goal.returns-in-DeleteIndex-clause-value
returns-in-DeleteIndex-clause-value g c = λ a p.
    let F = facts g.H.Host.rows in
    let e = c.args.operands.now in
    let w = c.args.heap.now in
    let h = c.args.host.now in
    let P : code_row.ExprRow → Type 0 = λ r. IfOk c.delete_index.result (λ m.
    made_expr F p c.args.at.now w h (row_as a r) e.done
    ≡ made_of a (row_as a r) c.delete_index.new.operands m c.delete_index.new.heap h) in
    subst P (sym c.in-DeleteIndex.is) (c.delete_index.ensures.value a)

pub returns-in-DeleteIndex-clause-shape : goal.returns-in-DeleteIndex-clause-shape
returns-in-DeleteIndex-clause-shape g c = λ a.
    c.delete_index.ensures.shape (next_phase (row_as a c.args.row))

pub returns-in-TypeOfName-clause-value : goal.returns-in-TypeOfName-clause-value
returns-in-TypeOfName-clause-value g c = λ a p.
    let F = facts g.H.Host.rows in
    let e = c.args.operands.now in
    let w = c.args.heap.now in
    let h = c.args.host.now in
    let P : code_row.ExprRow → Type 0 = λ r. IfOk c.type_of_name.result (λ m.
    made_expr F p c.args.at.now w h (row_as a r) e.done
    ≡ made_of a (row_as a c.args.row) e m w h) in
    subst P (sym c.in-TypeOfName.is) (c.type_of_name.ensures.value a (row_as a c.args.row))

pub returns-in-TypeOfName-clause-shape : goal.returns-in-TypeOfName-clause-shape
returns-in-TypeOfName-clause-shape g c = λ a.
    let e = c.args.operands.now in
    c.type_of_name.ensures.shape (next_phase (row_as a c.args.row)) e e
