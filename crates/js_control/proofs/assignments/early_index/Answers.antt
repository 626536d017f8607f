use Rattle.std.proofs.Common.{◌≡◌, false, drop, take, IfOk, ap, sym, ◌∙◌, refl, subst}
use Rattle.js_ops.specs.Convert.{is_missing}
use Rattle.js_ops.specs.declared.equality.Hint.TheVariants as hint
use Rattle.js_reference.specs.Hosted.{hosted}
use Rattle.js_reference.specs.declared.error.ErrorName.TheVariants.{TypeError}
use Rattle.js_tree.specs.Arena.{empty}
use Rattle.js_operands.proofs.Guards.{choice_false, choice_true, made_by}
use Rattle.js_operands.specs.Conversions.{convert, converts}
use Rattle.js_operands.specs.ExprMoves.{conversion_as, early_made_of}
use Rattle.js_operands.specs.Rows.{ExprRow}
use Rattle.js_operands.specs.Steps.{operand_at, throws}
use Rattle.js_control.proofs.KeySteps.{early_throw, early_throw_so, key_waits, key_waits_alone}
use Rattle.js_control.specs.Assignments.{early_index}
use Rattle.js_control.proofs.assignments.early_index.Goals as goal

pub returns-then-is_missing-clause-value : goal.returns-then-is_missing-clause-value
returns-then-is_missing-clause-value g c =
    let O = hosted g.H.Host.rows in
    let w = c.args.heap.now in
    let w' = c.type_error.new.heap in
    let h = c.args.host.now in
    let e = c.args.operands.now in
    let row : ExprRow = ExprRow.AssignIndex in
    let step = converts w h row (take 1 e.done) (drop 2 e.done) (convert O w h hint.Text (operand_at e.done 1)) in
    let missing = sym (c.is_missing.ensures ∙ ap is_missing c.operand.ensures.value) ∙ c.if-is_missing.true in
    made_by c.type_error.result (early_index O w h e.done) (throws TypeError w h)
    (λ m. early_made_of row e m w' h)
    (choice_true (is_missing (operand_at e.done 0)) (throws TypeError w h) step missing)
    (early_throw row e e w w' h c.type_error.result (c.type_error.ensures.value empty row e))

pub returns-then-is_missing-clause-shape : goal.returns-then-is_missing-clause-shape
returns-then-is_missing-clause-shape g c =
    let e = c.args.operands.now in
    let row : ExprRow = ExprRow.AssignIndex in
    early_throw_so row e e c.args.heap.now c.type_error.new.heap c.args.host.now
    c.type_error.result (c.type_error.ensures.value empty row e)

pub returns-clause-value : goal.returns-clause-value
returns-clause-value g c =
    let O = hosted g.H.Host.rows in
    let w = c.args.heap.now in
    let w' = c.convert_again.new.heap in
    let h = c.args.host.now in
    let e = c.args.operands.now in
    let e' = c.convert_again.new.operands in
    let key = convert O w h hint.Text (operand_at e.done 1) in
    let step = converts w h ExprRow.AssignIndex (take 1 e.done) (drop 2 e.done) key in
    let there : is_missing (operand_at e.done 0) ≡ false =
    sym (c.is_missing.ensures ∙ ap is_missing c.operand.ensures.value) ∙ c.if-is_missing.false in
    let is = c.in_ok-conversion.ensures in
    choice_false (is_missing (operand_at e.done 0)) (throws TypeError w h) step there
    ∙ key_waits w w' h e e' key (conversion_as c.in_ok-conversion.conversion) c.requires.early
    is.waits is.value is.after

pub returns-clause-shape : goal.returns-clause-shape
returns-clause-shape g c = (
  refl,
  key_waits_alone c.args.operands.now c.convert_again.new.operands c.requires.early
      c.in_ok-conversion.ensures.waits,
)
