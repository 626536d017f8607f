use Rattle.std.proofs.Common.{◌≡◌, ℕ, suc, ◌+◌, ◌++◌, List, [], Option, None, refl, ap, subst, sym, ◌∙◌, arith}
use Rattle.js_value.specs.declared.value.Value.{Value}
use Rattle.js_ops.specs.declared.equality.Hint.{Hint}
use Rattle.js_host.specs.Natives as natives
use Rattle.js_host.specs.There.{AreThere}
use Rattle.js_operations.specs.Converted.{IsConverted}
use Rattle.js_operations.specs.Operations.{operate, operation, operation_wants}
use Rattle.js_reference.specs.Answers.{answer}
use Rattle.js_reference.specs.Hosted.{hosted}
use Rattle.js_operands.proofs.Guards.{given_after, none_of, ready_of}
use Rattle.js_operands.proofs.Operands.{held_there}
use Rattle.js_control.proofs.Pairs.{at_first, at_next, is_converted}
use Rattle.js_operands.specs.Conversions.{hints, prepared}
use Rattle.js_operands.specs.ExprMoves.{operand_names, values_coming}
use Rattle.js_control.specs.Operators.{operator_wants}
use Rattle.js_operands.specs.Steps.{operand_at}
use Rattle.js_operands.proofs.Shaped.{some_so}
use Rattle.js_control.proofs.operated.operated.Goals as goal

pub operate-requires-clause-there : goal.operate-requires-clause-there
operate-requires-clause-there g c =
    let hs = g.H.Host.names.host c.args.host.now in
    let e' = c.prepared.new.operands in
    let w' = c.prepared.new.heap in
    let stays = none_of c.in_ok-moved.field-0 _ _ c.in_default.is c.in_ok-moved.ensures.stays in
    let named = subst (λ u. AreThere u (operand_names e' hs)) (sym stays.1) (subst (λ y. AreThere c.args.heap.now (operand_names y hs)) (sym stays.0) c.requires.there) in
    (c.operand-left.ensures.there w' hs named tt, (c.operand-right.ensures.there w' hs named tt, held_there w' (e'.done ++ values_coming e'.todo) hs named))

pub operate-requires-clause-left : goal.operate-requires-clause-left
operate-requires-clause-left g c =
    let O = hosted g.H.Host.rows in
    let n = c.args.place in
    let vs = c.args.operands.now.done in
    let a = operand_at vs n in
    let b = operand_at vs (suc n) in
    let one : n + 1 ≡ suc n = omega arith in
    let f = operation_wants (operation c.args.operator) a b in
    let ready = ready_of O (hints natives.wants c.operator_hints-wants.result) None c.args.heap.now c.args.host.now vs c.in_ok-moved.field-0 c.prepared.new.operands c.prepared.new.heap c.in_default.is c.in_ok-moved.ensures.value in
    let stays = none_of c.in_ok-moved.field-0 _ _ c.in_default.is c.in_ok-moved.ensures.stays in
    let first : IsConverted (f 0) a = is_converted (f 0) a (λ k e. ready.primitive n k (ap (λ (wants : ℕ → Option Hint). wants n) c.operator_hints-wants.ensures ∙ at_first n (f 0) (f 1) ∙ e)) in
    let left : c.operand-left.result.now ≡ a = c.operand-left.ensures.value ∙ ap (λ y. operand_at y.done n) stays.0 in
    let right : c.operand-right.result.now ≡ b = c.operand-right.ensures.value ∙ ap (λ y. operand_at y.done (n + 1)) stays.0 ∙ ap (operand_at vs) one in
    subst (λ o. IsConverted (operation_wants o c.operand-left.result.now c.operand-right.result.now 0) c.operand-left.result.now) (sym c.of.ensures)
    (subst (λ r. IsConverted (operation_wants (operation c.args.operator) c.operand-left.result.now r 0) c.operand-left.result.now) (sym right)
    (subst (λ l. IsConverted (operation_wants (operation c.args.operator) l b 0) l) (sym left) first))

pub operate-requires-clause-right : goal.operate-requires-clause-right
operate-requires-clause-right g c =
    let O = hosted g.H.Host.rows in
    let n = c.args.place in
    let vs = c.args.operands.now.done in
    let a = operand_at vs n in
    let b = operand_at vs (suc n) in
    let one : n + 1 ≡ suc n = omega arith in
    let f = operation_wants (operation c.args.operator) a b in
    let ready = ready_of O (hints natives.wants c.operator_hints-wants.result) None c.args.heap.now c.args.host.now vs c.in_ok-moved.field-0 c.prepared.new.operands c.prepared.new.heap c.in_default.is c.in_ok-moved.ensures.value in
    let stays = none_of c.in_ok-moved.field-0 _ _ c.in_default.is c.in_ok-moved.ensures.stays in
    let second : IsConverted (f 1) b = is_converted (f 1) b (λ k e. ready.primitive (suc n) k (ap (λ (wants : ℕ → Option Hint). wants (suc n)) c.operator_hints-wants.ensures ∙ at_next n (f 0) (f 1) ∙ e)) in
    let left : c.operand-left.result.now ≡ a = c.operand-left.ensures.value ∙ ap (λ y. operand_at y.done n) stays.0 in
    let right : c.operand-right.result.now ≡ b = c.operand-right.ensures.value ∙ ap (λ y. operand_at y.done (n + 1)) stays.0 ∙ ap (operand_at vs) one in
    subst (λ o. IsConverted (operation_wants o c.operand-left.result.now c.operand-right.result.now 1) c.operand-right.result.now) (sym c.of.ensures)
    (subst (λ l. IsConverted (operation_wants (operation c.args.operator) l c.operand-right.result.now 1) c.operand-right.result.now) (sym left)
    (subst (λ r. IsConverted (operation_wants (operation c.args.operator) a r 1) r) (sym right) second))

pub returns-clause-value : goal.returns-clause-value
returns-clause-value g c =
    let O = hosted g.H.Host.rows in
    let w = c.args.heap.now in
    let h = c.args.host.now in
    let n = c.args.place in
    let e = c.args.operands.now in
    let vs = e.done in
    let e' = c.prepared.new.operands in
    let w1 = c.prepared.new.heap in
    let op = operation c.args.operator in
    let one : n + 1 ≡ suc n = omega arith in
    let wants = operator_wants n c.args.operator (operand_at vs n) (operand_at vs (suc n)) in
    let ready = ready_of O (hints natives.wants c.operator_hints-wants.result) None w h vs c.in_ok-moved.field-0 e' w1 c.in_default.is c.in_ok-moved.ensures.value in
    let stays = none_of c.in_ok-moved.field-0 _ _ c.in_default.is c.in_ok-moved.ensures.stays in
    let right : c.operand-right.result.now ≡ operand_at e'.done (suc n) = c.operand-right.ensures.value ∙ ap (operand_at e'.done) one in
    let given : operate O w1 h op (operand_at e'.done n) (operand_at e'.done (suc n)) ≡ answer c.in_ok-answered.answered c.operate.new.heap h =
    ap (λ l. operate O w1 h op l (operand_at e'.done (suc n))) (sym c.operand-left.ensures.value)
    ∙ ap (operate O w1 h op c.operand-left.result.now) (sym right)
    ∙ ap (λ o. operate O w1 h o c.operand-left.result.now c.operand-right.result.now) (sym c.of.ensures) ∙ c.in_ok-answered.ensures.value in
    given_after (λ r made. prepared O w h r wants vs made) (λ u y k. operate O u h op (operand_at y.done n) (operand_at y.done (suc n))) e e' w w1 c.operate.new.heap h [] [] c.in_ok-answered.answered
    (λ r made. subst (λ f. prepared O w h r f vs made ≡ made) c.operator_hints-wants.ensures (ready.made r made)) given stays.1 stays.0 refl

pub returns-in-Some-clause-shape : goal.returns-in-Some-clause-shape
returns-in-Some-clause-shape g c = λ n.
    let e = c.args.operands.now in
    some_so n e c.prepared.new.operands c.in-Some.moved c.in_ok-moved.field-0 c.in-Some.is (c.in_ok-moved.ensures.shape n e tt refl)
