use Rattle.std.proofs.Common.{[], suc, take, ap, sym, ◌∙◌, Some, IfOk, subst}
use Rattle.js_operations.specs.Operations.{operate, operation}
use Rattle.js_reference.specs.Answers.{answer}
use Rattle.js_reference.specs.Hosted.{hosted}
use Rattle.js_operands.proofs.Guards.{given_of, made_by, names_of}
use Rattle.js_operands.specs.Conversions.{prepared}
use Rattle.js_operands.specs.ExprMoves.{later_row, made_of, operand_names}
use Rattle.js_control.specs.Operators.{operator_wants}
use Rattle.js_operands.specs.Steps.{goes_on, operand_at, with_value}
use Rattle.js_operands.specs.declared.row.Phase.TheVariants as phase
use Rattle.js_operands.proofs.Shaped.{moved_so}
use Rattle.js_operands.specs.Shapes.{IsShaped}
use Rattle.js_control.proofs.assignments.compute.Goals as goal

pub returns-in-Gives-clause-value : goal.returns-in-Gives-clause-value
returns-in-Gives-clause-value g c = λ a r.
    let O = hosted g.H.Host.rows in
    let w = c.args.heap.now in
    let h = c.args.host.now in
    let n = c.args.count in
    let e = c.args.operands.now in
    let vs = e.done in
    let e' = c.operated.new.operands in
    let w' = c.operated.new.heap in
    let op = operate O w h (operation c.args.operator) (operand_at vs n) (operand_at vs (suc n)) in
    let wants = operator_wants n c.args.operator (operand_at vs n) (operand_at vs (suc n)) in
    let given = given_of (λ r made. prepared O w h r wants vs made) op e e' w' h c.in_ok-moved.field-0 c.in-Gives.answered c.in-Gives.is c.in_ok-moved.ensures.value in
    let row = later_row r phase.Assign in
    let x = answer c.in-Gives.answered w' h in
    made_by c.assign_next.result (prepared O w h r wants vs (goes_on (with_value row (take n vs) []) op)) (goes_on (with_value row (take n e'.done) []) x)
    (λ m. made_of a r c.assign_next.new.operands m w' h)
    (given.made r (goes_on (with_value row (take n vs) [])) ∙ ap (λ y. goes_on (with_value row (take n y.done) []) x) (sym given.same)) (c.assign_next.ensures.value a r w' h)

pub returns-in-Gives-clause-there : goal.returns-in-Gives-clause-there
returns-in-Gives-clause-there g c =
    let hs = g.H.Host.names.host c.args.host.now in
    let w' = c.operated.new.heap in
    c.assign_next.ensures.there w' hs (names_of w' c.in_ok-moved.field-0 c.in-Gives.answered (operand_names c.operated.new.operands hs) c.in-Gives.is c.in_ok-moved.ensures.there)

pub returns-in-Moves-clause-shape : goal.returns-in-Moves-clause-shape
returns-in-Moves-clause-shape g c =
    let n = Some phase.Assign in
    moved_so n c.args.operands.now c.operated.new.operands c.in-Moves.moved c.in_ok-moved.field-0 c.in-Moves.is (c.in_ok-moved.ensures.shape n)

pub returns-in-Gives-clause-shape : goal.returns-in-Gives-clause-shape
returns-in-Gives-clause-shape g c =
    let O = hosted g.H.Host.rows in
    let w = c.args.heap.now in
    let h = c.args.host.now in
    let n = c.args.count in
    let e = c.args.operands.now in
    let vs = e.done in
    let e' = c.operated.new.operands in
    let w' = c.operated.new.heap in
    let op = operate O w h (operation c.args.operator) (operand_at vs n) (operand_at vs (suc n)) in
    let wants = operator_wants n c.args.operator (operand_at vs n) (operand_at vs (suc n)) in
    let given = given_of (λ r made. prepared O w h r wants vs made) op e e' w' h c.in_ok-moved.field-0 c.in-Gives.answered c.in-Gives.is c.in_ok-moved.ensures.value in
    subst (λ x. IfOk c.assign_next.result (λ m. IsShaped (Some phase.Assign) x c.assign_next.new.operands m)) given.same c.assign_next.ensures.shape
