use Rattle.std.proofs.Common.{◌∷◌, [], map, ap, sym, ◌∙◌, Some, IfOk, subst}
use Rattle.js_ops.specs.Convert.{to_text}
use Rattle.js_reference.specs.Answers.{answer}
use Rattle.js_reference.specs.Properties.{read}
use Rattle.js_reference.specs.Hosted.{hosted}
use Rattle.js_tree.specs.TreeAt.{tree_at}
use Rattle.js_operands.proofs.Guards.{given_of, made_by, names_of}
use Rattle.js_operands.specs.Steps.{call_node}
use Rattle.js_operands.specs.Conversions.{keyed}
use Rattle.js_operands.specs.ExprMoves.{later_row, made_of, operand_names}
use Rattle.js_operands.specs.Rows.{ExprRow}
use Rattle.js_operands.specs.Steps.{goes_on, operand_at, with_value}
use Rattle.js_operands.specs.declared.row.Phase.TheVariants as phase
use Rattle.js_operands.proofs.Shaped.{moved_so}
use Rattle.js_operands.specs.Shapes.{IsShaped}
use Rattle.js_control.proofs.assignments.revise_index.Goals as goal

pub returns-in-Gives-clause-value : goal.returns-in-Gives-clause-value
returns-in-Gives-clause-value g c = λ a o.
    let O = hosted g.H.Host.rows in
    let w = c.args.heap.now in
    let h = c.args.host.now in
    let e = c.args.operands.now in
    let vs = e.done in
    let e' = c.read_keyed.new.operands in
    let w' = c.read_keyed.new.heap in
    let op = read O w h (operand_at vs 0) (to_text (operand_at vs 1)) in
    let given = given_of (λ r made. keyed O w h r vs made) op e e' w' h c.in_ok-moved.field-0 c.in-Gives.answered c.in-Gives.is c.in_ok-moved.ensures.value in
    let row : ExprRow = ExprRow.ReviseIndex o (tree_at a c.args.right) in
    let x = answer c.in-Gives.answered w' h in
    made_by c.read_before.result (keyed O w h row vs (goes_on (with_value (later_row row phase.Compute) vs (tree_at a c.args.right ∷ [])) op)) (goes_on (with_value (later_row row phase.Compute) e'.done (tree_at a c.args.right ∷ [])) x)
    (λ m. made_of a row c.read_before.new.operands m w' h)
    (given.made row (goes_on (with_value (later_row row phase.Compute) vs (tree_at a c.args.right ∷ []))) ∙ ap (λ y. (goes_on (with_value (later_row row phase.Compute) y.done (tree_at a c.args.right ∷ []))) x) (sym given.same)) (c.read_before.ensures.value a row w' h)

pub returns-in-Gives-clause-there : goal.returns-in-Gives-clause-there
returns-in-Gives-clause-there g c =
    let hs = g.H.Host.names.host c.args.host.now in
    let w' = c.read_keyed.new.heap in
    c.read_before.ensures.there w' hs (names_of w' c.in_ok-moved.field-0 c.in-Gives.answered (operand_names c.read_keyed.new.operands hs) c.in-Gives.is c.in_ok-moved.ensures.there)

pub returns-in-Moves-clause-shape : goal.returns-in-Moves-clause-shape
returns-in-Moves-clause-shape g c =
    let n = Some phase.Compute in
    moved_so n c.args.operands.now c.read_keyed.new.operands c.in-Moves.moved c.in_ok-moved.field-0 c.in-Moves.is (c.in_ok-moved.ensures.shape n)

pub returns-in-Gives-clause-shape : goal.returns-in-Gives-clause-shape
returns-in-Gives-clause-shape g c =
    let O = hosted g.H.Host.rows in
    let w = c.args.heap.now in
    let h = c.args.host.now in
    let e = c.args.operands.now in
    let vs = e.done in
    let e' = c.read_keyed.new.operands in
    let w' = c.read_keyed.new.heap in
    let op = read O w h (operand_at vs 0) (to_text (operand_at vs 1)) in
    let given = given_of (λ r made. keyed O w h r vs made) op e e' w' h c.in_ok-moved.field-0 c.in-Gives.answered c.in-Gives.is c.in_ok-moved.ensures.value in
    subst (λ x. IfOk c.read_before.result (λ m. IsShaped (Some phase.Compute) x c.read_before.new.operands m)) given.same c.read_before.ensures.shape
