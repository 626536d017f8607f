use Rattle.std.proofs.Common.{◌≡◌, ◌++◌, ℕ, [], Option, None, refl, ap, subst, sym, ◌∙◌}
use Rattle.js_ops.specs.declared.equality.Hint.{Hint}
use Rattle.js_host.specs.There.{AreThere}
use Rattle.js_operations.specs.Converted.{IsConverted}
use Rattle.js_operations.specs.Unary.{unary_operate, unary_wants}
use Rattle.js_reference.specs.Answers.{answer}
use Rattle.js_reference.specs.Hosted.{hosted}
use Rattle.js_operands.proofs.Guards.{given_after, none_of, ready_of}
use Rattle.js_control.proofs.Pairs.{at_first, is_converted}
use Rattle.js_operands.specs.Conversions.{prepared, wants_at}
use Rattle.js_operands.specs.Steps.{operand_at}
use Rattle.js_operands.proofs.Shaped.{some_so}
use Rattle.js_control.proofs.operators.operated_alone.Goals as goal

pub unary_operate-requires-clause-converted : goal.unary_operate-requires-clause-converted
unary_operate-requires-clause-converted g c =
    let O = hosted g.H.Host.rows in
    let vs = c.args.operands.now.done in
    let v = operand_at vs 0 in
    let k = c.unary_wants.result in
    let ready = ready_of O (wants_at 0 k None) None c.args.heap.now c.args.host.now vs c.in_ok-moved.field-0 c.prepared.new.operands c.prepared.new.heap c.in_default.is c.in_ok-moved.ensures.value in
    let stays = none_of c.in_ok-moved.field-0 _ _ c.in_default.is c.in_ok-moved.ensures.stays in
    let one : IsConverted k v = is_converted k v (λ j e. ready.primitive 0 j (at_first 0 k None ∙ e)) in
    let is : c.operand.result.now ≡ v = c.operand.ensures.value ∙ ap (λ y. operand_at y.done 0) stays.0 in
    subst (λ j. IsConverted j c.operand.result.now) (c.unary_wants.ensures 0) (subst (λ l. IsConverted k l) (sym is) one)

pub returns-clause-value : goal.returns-clause-value
returns-clause-value g c =
    let O = hosted g.H.Host.rows in
    let w = c.args.heap.now in
    let h = c.args.host.now in
    let e = c.args.operands.now in
    let vs = e.done in
    let e' = c.prepared.new.operands in
    let w1 = c.prepared.new.heap in
    let o = c.args.operator in
    let k = c.unary_wants.result in
    let ready = ready_of O (wants_at 0 k None) None w h vs c.in_ok-moved.field-0 e' w1 c.in_default.is c.in_ok-moved.ensures.value in
    let stays = none_of c.in_ok-moved.field-0 _ _ c.in_default.is c.in_ok-moved.ensures.stays in
    let given : unary_operate w1 h o (operand_at e'.done 0) ≡ answer c.in_ok-answered.answered c.unary_operate.new.heap h =
    ap (unary_operate w1 h o) (sym c.operand.ensures.value) ∙ c.in_ok-answered.ensures.value in
    given_after (λ r made. prepared O w h r (wants_at 0 (unary_wants o 0) None) vs made) (λ u y z. unary_operate u h o (operand_at y.done 0)) e e' w w1 c.unary_operate.new.heap h [] [] c.in_ok-answered.answered
    (λ r made. subst (λ j. prepared O w h r (wants_at 0 j None) vs made ≡ made) (c.unary_wants.ensures 0) (ready.made r made)) given stays.1 stays.0 refl

pub returns-in-Some-clause-shape : goal.returns-in-Some-clause-shape
returns-in-Some-clause-shape g c = λ n.
    let e = c.args.operands.now in
    some_so n e c.prepared.new.operands c.in-Some.moved c.in_ok-moved.field-0 c.in-Some.is (c.in_ok-moved.ensures.shape n e tt refl)
