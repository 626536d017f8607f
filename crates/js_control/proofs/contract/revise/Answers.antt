use Rattle.std.proofs.Common.{◌≡◌, IfOk, refl, ◌∙◌, subst, sym}
use Rattle.std.proofs.lemmas.Result.{IfOk-weaker}
use Rattle.js_operands.specs.ExprMoves.{later_row, made_of, row_as}
use Rattle.js_operands.specs.Hosted.{facts}
use Rattle.js_operands.specs.Shapes.{IsShaped, next_phase}
use Rattle.js_operands.specs.declared.row.ExprRow as code_row
use Rattle.js_operands.specs.declared.row.Phase.TheVariants as phase
use Rattle.js_control.specs.Assignments.{computed}
use Rattle.js_control.specs.Make.{made_expr}
use Rattle.js_control.proofs.contract.revise.Goals as goal

pub returns-in-ReviseName-clause-value : goal.returns-in-ReviseName-clause-value
returns-in-ReviseName-clause-value g c = λ a p.
    let F = facts g.H.Host.rows in
    let e = c.args.operands.now in
    let w = c.args.heap.now in
    let h = c.args.host.now in
    let P : code_row.ExprRow → Type 0 = λ r. IfOk c.revise_name.result (λ m.
    made_expr F p c.args.at.now w h (row_as a r) e.done
    ≡ made_of a (row_as a r) c.revise_name.new.operands m c.revise_name.new.heap h) in
    subst P (sym c.in-ReviseName.is) (c.revise_name.ensures.value a _)

pub returns-in-ReviseName-clause-shape : goal.returns-in-ReviseName-clause-shape
returns-in-ReviseName-clause-shape g c = λ a.
    let e = c.args.operands.now in
    let P : code_row.ExprRow → Type 0 = λ r. IfOk c.revise_name.result (λ m.
    IsShaped (next_phase (row_as a r)) e c.revise_name.new.operands m) in
    subst P (sym c.in-ReviseName.is) c.revise_name.ensures.shape

pub returns-in-ReviseMember-clause-value : goal.returns-in-ReviseMember-clause-value
returns-in-ReviseMember-clause-value g c = λ a p.
    let F = facts g.H.Host.rows in
    let e = c.args.operands.now in
    let w = c.args.heap.now in
    let h = c.args.host.now in
    let P : code_row.ExprRow → Type 0 = λ r. IfOk c.revise_member.result (λ m.
    made_expr F p c.args.at.now w h (row_as a r) e.done
    ≡ made_of a (row_as a r) c.revise_member.new.operands m c.revise_member.new.heap h) in
    subst P (sym c.in-ReviseMember.is) (c.revise_member.ensures.value a _)

pub returns-in-ReviseMember-clause-shape : goal.returns-in-ReviseMember-clause-shape
returns-in-ReviseMember-clause-shape g c = λ a.
    let e = c.args.operands.now in
    let P : code_row.ExprRow → Type 0 = λ r. IfOk c.revise_member.result (λ m.
    IsShaped (next_phase (row_as a r)) e c.revise_member.new.operands m) in
    subst P (sym c.in-ReviseMember.is) c.revise_member.ensures.shape

pub returns-in-ReviseIndex-clause-value : goal.returns-in-ReviseIndex-clause-value
returns-in-ReviseIndex-clause-value g c = λ a p.
    let F = facts g.H.Host.rows in
    let e = c.args.operands.now in
    let w = c.args.heap.now in
    let h = c.args.host.now in
    let P : code_row.ExprRow → Type 0 = λ r. IfOk c.revise_index.result (λ m.
    made_expr F p c.args.at.now w h (row_as a r) e.done
    ≡ made_of a (row_as a r) c.revise_index.new.operands m c.revise_index.new.heap h) in
    subst P (sym c.in-ReviseIndex.is) (c.revise_index.ensures.value a _)

pub returns-in-ReviseIndex-clause-shape : goal.returns-in-ReviseIndex-clause-shape
returns-in-ReviseIndex-clause-shape g c = λ a.
    let e = c.args.operands.now in
    let P : code_row.ExprRow → Type 0 = λ r. IfOk c.revise_index.result (λ m.
    IsShaped (next_phase (row_as a r)) e c.revise_index.new.operands m) in
    subst P (sym c.in-ReviseIndex.is) c.revise_index.ensures.shape

pub returns-in-ComputeName-clause-value : goal.returns-in-ComputeName-clause-value
returns-in-ComputeName-clause-value g c = λ a p.
    let F = facts g.H.Host.rows in
    let e = c.args.operands.now in
    let w = c.args.heap.now in
    let h = c.args.host.now in
    let r' = row_as a c.args.row in
    let P : code_row.ExprRow → Type 0 = λ r.
    made_expr F p c.args.at.now w h (row_as a r) e.done
    ≡ computed F.own w h (row_as a r) (later_row (row_as a r) phase.Assign) 0
    c.in-ComputeName.operator e.done in
    IfOk-weaker c.compute.result _ _
    (λ m is. subst P (sym c.in-ComputeName.is) refl ∙ is)
    (c.compute.ensures.value a r')

pub returns-in-ComputeName-clause-shape : goal.returns-in-ComputeName-clause-shape
returns-in-ComputeName-clause-shape g c = λ a.
    let e = c.args.operands.now in
    let P : code_row.ExprRow → Type 0 = λ r. IfOk c.compute.result (λ m.
    IsShaped (next_phase (row_as a r)) e c.compute.new.operands m) in
    subst P (sym c.in-ComputeName.is) c.compute.ensures.shape

pub returns-in-ComputeMember-clause-value : goal.returns-in-ComputeMember-clause-value
returns-in-ComputeMember-clause-value g c = λ a p.
    let F = facts g.H.Host.rows in
    let e = c.args.operands.now in
    let w = c.args.heap.now in
    let h = c.args.host.now in
    let r' = row_as a c.args.row in
    let P : code_row.ExprRow → Type 0 = λ r.
    made_expr F p c.args.at.now w h (row_as a r) e.done
    ≡ computed F.own w h (row_as a r) (later_row (row_as a r) phase.Assign) 1
    c.in-ComputeMember.operator e.done in
    IfOk-weaker c.compute-in-ComputeMember.result _ _
    (λ m is. subst P (sym c.in-ComputeMember.is) refl ∙ is)
    (c.compute-in-ComputeMember.ensures.value a r')

pub returns-in-ComputeMember-clause-shape : goal.returns-in-ComputeMember-clause-shape
returns-in-ComputeMember-clause-shape g c = λ a.
    let e = c.args.operands.now in
    let P : code_row.ExprRow → Type 0 = λ r. IfOk c.compute-in-ComputeMember.result (λ m.
    IsShaped (next_phase (row_as a r)) e c.compute-in-ComputeMember.new.operands m) in
    subst P (sym c.in-ComputeMember.is) c.compute-in-ComputeMember.ensures.shape

pub returns-in-ComputeIndex-clause-value : goal.returns-in-ComputeIndex-clause-value
returns-in-ComputeIndex-clause-value g c = λ a p.
    let F = facts g.H.Host.rows in
    let e = c.args.operands.now in
    let w = c.args.heap.now in
    let h = c.args.host.now in
    let r' = row_as a c.args.row in
    let P : code_row.ExprRow → Type 0 = λ r.
    made_expr F p c.args.at.now w h (row_as a r) e.done
    ≡ computed F.own w h (row_as a r) (later_row (row_as a r) phase.Assign) 2
    c.in-ComputeIndex.operator e.done in
    IfOk-weaker c.compute-in-ComputeIndex.result _ _
    (λ m is. subst P (sym c.in-ComputeIndex.is) refl ∙ is)
    (c.compute-in-ComputeIndex.ensures.value a r')

pub returns-in-ComputeIndex-clause-shape : goal.returns-in-ComputeIndex-clause-shape
returns-in-ComputeIndex-clause-shape g c = λ a.
    let e = c.args.operands.now in
    let P : code_row.ExprRow → Type 0 = λ r. IfOk c.compute-in-ComputeIndex.result (λ m.
    IsShaped (next_phase (row_as a r)) e c.compute-in-ComputeIndex.new.operands m) in
    subst P (sym c.in-ComputeIndex.is) c.compute-in-ComputeIndex.ensures.shape
