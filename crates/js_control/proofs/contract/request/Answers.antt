use Rattle.std.proofs.Common.{◌≡◌, IfOk, subst, sym}
use Rattle.js_operands.specs.ExprMoves.{made_of, row_as}
use Rattle.js_operands.specs.Hosted.{facts}
use Rattle.js_operands.specs.Shapes.{IsShaped, next_phase}
use Rattle.js_operands.specs.declared.row.ExprRow as code_row
use Rattle.js_control.specs.Make.{made_expr}
use Rattle.js_control.proofs.contract.request.Goals as goal

pub returns-in-Call-clause-value : goal.returns-in-Call-clause-value
returns-in-Call-clause-value g c = λ a p k.
    let F = facts g.H.Host.rows in
    let e = c.args.operands.now in
    let w = c.args.heap.now in
    let h = c.args.host.now in
    let P : code_row.ExprRow → Type 0 = λ r. IfOk c.call.result (λ m.
    made_expr F p k w h (row_as a r) e.done
    ≡ made_of a (row_as a r) c.call.new.operands m c.call.new.heap h) in
    subst P (sym c.in-Call.is) (c.call.ensures.value a)

pub returns-in-Call-clause-shape : goal.returns-in-Call-clause-shape
returns-in-Call-clause-shape g c = λ a.
    let e = c.args.operands.now in
    let P : code_row.ExprRow → Type 0 = λ r. IfOk c.call.result (λ m.
    IsShaped (next_phase (row_as a r)) e c.call.new.operands m) in
    subst P (sym c.in-Call.is) c.call.ensures.shape

pub returns-in-CallOn-clause-value : goal.returns-in-CallOn-clause-value
returns-in-CallOn-clause-value g c = λ a p k.
    let F = facts g.H.Host.rows in
    let e = c.args.operands.now in
    let w = c.args.heap.now in
    let h = c.args.host.now in
    let P : code_row.ExprRow → Type 0 = λ r. IfOk c.call_on.result (λ m.
    made_expr F p k w h (row_as a r) e.done
    ≡ made_of a (row_as a r) c.call_on.new.operands m c.call_on.new.heap h) in
    subst P (sym c.in-CallOn.is) (c.call_on.ensures.value a)

pub returns-in-CallOn-clause-shape : goal.returns-in-CallOn-clause-shape
returns-in-CallOn-clause-shape g c = λ a.
    c.call_on.ensures.shape (next_phase (row_as a c.args.row))

pub returns-in-CallMember-clause-value : goal.returns-in-CallMember-clause-value
returns-in-CallMember-clause-value g c = λ a p k.
    let F = facts g.H.Host.rows in
    let e = c.args.operands.now in
    let w = c.args.heap.now in
    let h = c.args.host.now in
    let P : code_row.ExprRow → Type 0 = λ r. IfOk c.call_member.result (λ m.
    made_expr F p k w h (row_as a r) e.done
    ≡ made_of a (row_as a c.args.row) c.call_member.new.operands m c.call_member.new.heap h) in
    subst P (sym c.in-CallMember.is) (c.call_member.ensures.value a (row_as a c.args.row))

pub returns-in-CallMember-clause-shape : goal.returns-in-CallMember-clause-shape
returns-in-CallMember-clause-shape g c = λ a.
    let e = c.args.operands.now in
    let P : code_row.ExprRow → Type 0 = λ r. IfOk c.call_member.result (λ m.
    IsShaped (next_phase (row_as a r)) e c.call_member.new.operands m) in
    subst P (sym c.in-CallMember.is) c.call_member.ensures.shape

pub returns-in-CallIndex-clause-value : goal.returns-in-CallIndex-clause-value
returns-in-CallIndex-clause-value g c = λ a p k.
    let F = facts g.H.Host.rows in
    let e = c.args.operands.now in
    let w = c.args.heap.now in
    let h = c.args.host.now in
    let P : code_row.ExprRow → Type 0 = λ r. IfOk c.call_index.result (λ m.
    made_expr F p k w h (row_as a r) e.done
    ≡ made_of a (row_as a r) c.call_index.new.operands m c.call_index.new.heap h) in
    subst P (sym c.in-CallIndex.is) (c.call_index.ensures.value a)

pub returns-in-CallIndex-clause-shape : goal.returns-in-CallIndex-clause-shape
returns-in-CallIndex-clause-shape g c = λ a.
    let e = c.args.operands.now in
    let P : code_row.ExprRow → Type 0 = λ r. IfOk c.call_index.result (λ m.
    IsShaped (next_phase (row_as a r)) e c.call_index.new.operands m) in
    subst P (sym c.in-CallIndex.is) c.call_index.ensures.shape

pub returns-in-New-clause-value : goal.returns-in-New-clause-value
returns-in-New-clause-value g c = λ a p k.
    let F = facts g.H.Host.rows in
    let e = c.args.operands.now in
    let w = c.args.heap.now in
    let h = c.args.host.now in
    let P : code_row.ExprRow → Type 0 = λ r. IfOk c.new_object.result (λ m.
    made_expr F p k w h (row_as a r) e.done
    ≡ made_of a (row_as a r) c.new_object.new.operands m c.new_object.new.heap h) in
    subst P (sym c.in-New.is) (c.new_object.ensures.value a)

pub returns-in-New-clause-shape : goal.returns-in-New-clause-shape
returns-in-New-clause-shape g c = λ a.
    c.new_object.ensures.shape (next_phase (row_as a c.args.row))
