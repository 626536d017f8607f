use Rattle.std.proofs.Common.{◌≡◌, IfOk, subst, sym}
use Rattle.js_operands.specs.ExprMoves.{made_of, row_as}
use Rattle.js_operands.specs.Hosted.{facts}
use Rattle.js_operands.specs.declared.row.ExprRow as code_row
use Rattle.js_control.specs.Make.{made_expr}
use Rattle.js_control.proofs.contract.choose.Goals as goal

pub returns-in-And-clause-value : goal.returns-in-And-clause-value
returns-in-And-clause-value g c = λ a p k w h.
    let F = facts g.H.Host.rows in
    let e = c.args.operands.now in
    let P : code_row.ExprRow → Type 0 = λ r. IfOk c.and.result (λ m.
    made_expr F p k w h (row_as a r) e.done
    ≡ made_of a (row_as a c.args.row) e m w h) in
    subst P (sym c.in-And.is) (c.and.ensures.value a (row_as a c.args.row) w h)

pub returns-in-Or-clause-value : goal.returns-in-Or-clause-value
returns-in-Or-clause-value g c = λ a p k w h.
    let F = facts g.H.Host.rows in
    let e = c.args.operands.now in
    let P : code_row.ExprRow → Type 0 = λ r. IfOk c.or.result (λ m.
    made_expr F p k w h (row_as a r) e.done
    ≡ made_of a (row_as a c.args.row) e m w h) in
    subst P (sym c.in-Or.is) (c.or.ensures.value a (row_as a c.args.row) w h)

pub returns-in-Conditional-clause-value : goal.returns-in-Conditional-clause-value
returns-in-Conditional-clause-value g c = λ a p k w h.
    let F = facts g.H.Host.rows in
    let e = c.args.operands.now in
    let P : code_row.ExprRow → Type 0 = λ r. IfOk c.conditional.result (λ m.
    made_expr F p k w h (row_as a r) e.done
    ≡ made_of a (row_as a c.args.row) e m w h) in
    subst P (sym c.in-Conditional.is) (c.conditional.ensures.value a (row_as a c.args.row) w h)

pub returns-in-Comma-clause-value : goal.returns-in-Comma-clause-value
returns-in-Comma-clause-value g c = λ a p k w h.
    let F = facts g.H.Host.rows in
    let e = c.args.operands.now in
    let P : code_row.ExprRow → Type 0 = λ r.
    made_expr F p k w h (row_as a r) e.done
    ≡ made_of a (row_as a c.args.row) e c.comma.result w h in
    subst P (sym c.in-Comma.is) (c.comma.ensures.value a (row_as a c.args.row) e w h)
