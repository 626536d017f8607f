use Rattle.std.proofs.Common.{◌≡◌, IfOk, subst, sym}
use Rattle.js_operands.specs.ExprMoves.{made_of, row_as}
use Rattle.js_operands.specs.Hosted.{facts}
use Rattle.js_operands.specs.Shapes.{IsShaped, next_phase}
use Rattle.js_operands.specs.declared.row.ExprRow as code_row
use Rattle.js_control.specs.Make.{made_expr}
use Rattle.js_control.proofs.contract.update.Goals as goal

pub returns-in-UpdateName-clause-value : goal.returns-in-UpdateName-clause-value
returns-in-UpdateName-clause-value g c = λ a p.
    let F = facts g.H.Host.rows in
    let e = c.args.operands.now in
    let w = c.args.heap.now in
    let h = c.args.host.now in
    let P : code_row.ExprRow → Type 0 = λ r. IfOk c.update_name.result (λ m.
    made_expr F p c.args.at.now w h (row_as a r) e.done
    ≡ made_of a (row_as a r) c.update_name.new.operands m c.update_name.new.heap h) in
    subst P (sym c.in-UpdateName.is) (c.update_name.ensures.value a _ _)

pub returns-in-UpdateName-clause-shape : goal.returns-in-UpdateName-clause-shape
returns-in-UpdateName-clause-shape g c = λ a.
    let e = c.args.operands.now in
    let P : code_row.ExprRow → Type 0 = λ r. IfOk c.update_name.result (λ m.
    IsShaped (next_phase (row_as a r)) e c.update_name.new.operands m) in
    subst P (sym c.in-UpdateName.is) c.update_name.ensures.shape

pub returns-in-UpdateMember-clause-value : goal.returns-in-UpdateMember-clause-value
returns-in-UpdateMember-clause-value g c = λ a p.
    let F = facts g.H.Host.rows in
    let e = c.args.operands.now in
    let w = c.args.heap.now in
    let h = c.args.host.now in
    let P : code_row.ExprRow → Type 0 = λ r. IfOk c.update_member.result (λ m.
    made_expr F p c.args.at.now w h (row_as a r) e.done
    ≡ made_of a (row_as a r) c.update_member.new.operands m c.update_member.new.heap h) in
    subst P (sym c.in-UpdateMember.is) (c.update_member.ensures.value a _ _)

pub returns-in-UpdateMember-clause-shape : goal.returns-in-UpdateMember-clause-shape
returns-in-UpdateMember-clause-shape g c = λ a.
    let e = c.args.operands.now in
    let P : code_row.ExprRow → Type 0 = λ r. IfOk c.update_member.result (λ m.
    IsShaped (next_phase (row_as a r)) e c.update_member.new.operands m) in
    subst P (sym c.in-UpdateMember.is) c.update_member.ensures.shape

pub returns-in-UpdateIndex-clause-value : goal.returns-in-UpdateIndex-clause-value
returns-in-UpdateIndex-clause-value g c = λ a p.
    let F = facts g.H.Host.rows in
    let e = c.args.operands.now in
    let w = c.args.heap.now in
    let h = c.args.host.now in
    let P : code_row.ExprRow → Type 0 = λ r. IfOk c.update_index.result (λ m.
    made_expr F p c.args.at.now w h (row_as a r) e.done
    ≡ made_of a (row_as a r) c.update_index.new.operands m c.update_index.new.heap h) in
    subst P (sym c.in-UpdateIndex.is) (c.update_index.ensures.value a _ _)

pub returns-in-UpdateIndex-clause-shape : goal.returns-in-UpdateIndex-clause-shape
returns-in-UpdateIndex-clause-shape g c = λ a.
    let e = c.args.operands.now in
    let P : code_row.ExprRow → Type 0 = λ r. IfOk c.update_index.result (λ m.
    IsShaped (next_phase (row_as a r)) e c.update_index.new.operands m) in
    subst P (sym c.in-UpdateIndex.is) c.update_index.ensures.shape
