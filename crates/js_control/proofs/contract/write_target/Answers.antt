use Rattle.std.proofs.Common.{◌≡◌, IfOk, subst, sym}
use Rattle.js_operands.specs.ExprMoves.{made_of, row_as}
use Rattle.js_operands.specs.Hosted.{facts}
use Rattle.js_operands.specs.Shapes.{next_phase}
use Rattle.js_operands.specs.declared.row.ExprRow as code_row
use Rattle.js_control.specs.Make.{made_expr}
use Rattle.js_control.proofs.contract.write_target.Goals as goal

pub returns-in-AssignName-clause-value : goal.returns-in-AssignName-clause-value
returns-in-AssignName-clause-value g c = λ a p.
    let F = facts g.H.Host.rows in
    let e = c.args.operands.now in
    let w = c.args.heap.now in
    let h = c.args.host.now in
    let P : code_row.ExprRow → Type 0 = λ r. IfOk c.assign_name.result (λ m.
    made_expr F p c.args.at.now w h (row_as a r) e.done
    ≡ made_of a (row_as a c.args.row) e m c.assign_name.new.heap c.assign_name.new.host) in
    subst P (sym c.in-AssignName.is) (c.assign_name.ensures.value a (row_as a c.args.row))

pub returns-in-AssignName-clause-shape : goal.returns-in-AssignName-clause-shape
returns-in-AssignName-clause-shape g c = λ a.
    let e = c.args.operands.now in
    c.assign_name.ensures.shape (next_phase (row_as a c.args.row)) e e

pub returns-in-AssignMember-clause-value : goal.returns-in-AssignMember-clause-value
returns-in-AssignMember-clause-value g c = λ a p.
    let F = facts g.H.Host.rows in
    let e = c.args.operands.now in
    let w = c.args.heap.now in
    let h = c.args.host.now in
    let P : code_row.ExprRow → Type 0 = λ r. IfOk c.assign_member.result (λ m.
    made_expr F p c.args.at.now w h (row_as a r) e.done
    ≡ made_of a (row_as a c.args.row) e m c.assign_member.new.heap c.assign_member.new.host) in
    subst P (sym c.in-AssignMember.is) (c.assign_member.ensures.value a (row_as a c.args.row))

pub returns-in-AssignMember-clause-shape : goal.returns-in-AssignMember-clause-shape
returns-in-AssignMember-clause-shape g c = λ a.
    let e = c.args.operands.now in
    c.assign_member.ensures.shape (next_phase (row_as a c.args.row)) e e

pub returns-in-AssignIndex-clause-value : goal.returns-in-AssignIndex-clause-value
returns-in-AssignIndex-clause-value g c = λ a p.
    let F = facts g.H.Host.rows in
    let e = c.args.operands.now in
    let w = c.args.heap.now in
    let h = c.args.host.now in
    let P : code_row.ExprRow → Type 0 = λ r. IfOk c.assign_index.result (λ m.
    made_expr F p c.args.at.now w h (row_as a r) e.done
    ≡ made_of a (row_as a c.args.row) e m c.assign_index.new.heap c.assign_index.new.host) in
    subst P (sym c.in-AssignIndex.is) (c.assign_index.ensures.value a (row_as a c.args.row))

pub returns-in-AssignIndex-clause-shape : goal.returns-in-AssignIndex-clause-shape
returns-in-AssignIndex-clause-shape g c = λ a.
    let e = c.args.operands.now in
    c.assign_index.ensures.shape (next_phase (row_as a c.args.row)) e e

pub returns-in-StoreName-clause-value : goal.returns-in-StoreName-clause-value
returns-in-StoreName-clause-value g c = λ a p.
    let F = facts g.H.Host.rows in
    let e = c.args.operands.now in
    let w = c.args.heap.now in
    let h = c.args.host.now in
    let P : code_row.ExprRow → Type 0 = λ r. IfOk c.store_name.result (λ m.
    made_expr F p c.args.at.now w h (row_as a r) e.done
    ≡ made_of a (row_as a r) c.store_name.new.operands m
    c.store_name.new.heap c.store_name.new.host) in
    subst P (sym c.in-StoreName.is) (c.store_name.ensures.value a)

pub returns-in-StoreName-clause-shape : goal.returns-in-StoreName-clause-shape
returns-in-StoreName-clause-shape g c = λ a.
    c.store_name.ensures.shape (next_phase (row_as a c.args.row))

pub returns-in-StoreMember-clause-value : goal.returns-in-StoreMember-clause-value
returns-in-StoreMember-clause-value g c = λ a p.
    let F = facts g.H.Host.rows in
    let e = c.args.operands.now in
    let w = c.args.heap.now in
    let h = c.args.host.now in
    let P : code_row.ExprRow → Type 0 = λ r. IfOk c.store_member.result (λ m.
    made_expr F p c.args.at.now w h (row_as a r) e.done
    ≡ made_of a (row_as a r) c.store_member.new.operands m
    c.store_member.new.heap c.store_member.new.host) in
    subst P (sym c.in-StoreMember.is) (c.store_member.ensures.value a)

pub returns-in-StoreMember-clause-shape : goal.returns-in-StoreMember-clause-shape
returns-in-StoreMember-clause-shape g c = λ a.
    c.store_member.ensures.shape (next_phase (row_as a c.args.row))

pub returns-in-StoreIndex-clause-value : goal.returns-in-StoreIndex-clause-value
returns-in-StoreIndex-clause-value g c = λ a p.
    let F = facts g.H.Host.rows in
    let e = c.args.operands.now in
    let w = c.args.heap.now in
    let h = c.args.host.now in
    let P : code_row.ExprRow → Type 0 = λ r. IfOk c.store_index.result (λ m.
    made_expr F p c.args.at.now w h (row_as a r) e.done
    ≡ made_of a (row_as a r) c.store_index.new.operands m
    c.store_index.new.heap c.store_index.new.host) in
    subst P (sym c.in-StoreIndex.is) (c.store_index.ensures.value a)

pub returns-in-StoreIndex-clause-shape : goal.returns-in-StoreIndex-clause-shape
returns-in-StoreIndex-clause-shape g c = λ a.
    c.store_index.ensures.shape (next_phase (row_as a c.args.row))
