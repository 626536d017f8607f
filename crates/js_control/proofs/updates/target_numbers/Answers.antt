use Rattle.std.proofs.Common.{◌≡◌, Option, Some, None, ap, subst, sym, ◌∙◌, refl}
use Rattle.js_value.specs.Image.{IsPrimitive}
use Rattle.js_ops.specs.declared.equality.Hint.{Hint}
use Rattle.js_ops.specs.declared.equality.Hint.TheVariants as hint
use Rattle.js_reference.specs.Errors.{thrown}
use Rattle.js_reference.specs.Hosted.{hosted}
use Rattle.js_reference.specs.declared.error.ErrorName.TheVariants.{RangeError}
use Rattle.js_operands.proofs.Guards.{none_of, ready_of}
use Rattle.js_control.proofs.Pairs.{at_first}
use Rattle.js_control.proofs.Storing.{stored_nothing}
use Rattle.js_operands.specs.Conversions.{wants_at}
use Rattle.js_operands.specs.ExprMoves.{made_of}
use Rattle.js_operands.specs.Steps.{gives, operand_at}
use Rattle.js_control.specs.Stored.{AreNext}
use Rattle.js_operands.proofs.Shaped.{some_so}
use Rattle.js_control.proofs.updates.target_numbers.Goals as goal

pub numbers-requires : goal.numbers-requires
numbers-requires g c =
    let O = hosted g.H.Host.rows in
    let n = c.args.place in
    let vs = c.args.operands.now.done in
    let k : Option Hint = Some hint.Number in
    let ready = ready_of O (wants_at n k None) None c.args.heap.now c.args.host.now vs c.in_ok-moved.field-0 c.prepared.new.operands c.prepared.new.heap c.in_default.is c.in_ok-moved.ensures.value in
    let stays = none_of c.in_ok-moved.field-0 _ _ c.in_default.is c.in_ok-moved.ensures.stays in
    let is : c.operand.result.now ≡ operand_at vs n = c.operand.ensures.value ∙ ap (λ y. operand_at y.done n) stays.0 in
    subst IsPrimitive (sym is) (ready.primitive n hint.Number (at_first n k None))

pub returns-clause-value : goal.returns-clause-value
returns-clause-value g c = λ a r s put.
    let O = hosted g.H.Host.rows in
    let w = c.args.heap.now in
    let h = c.args.host.now in
    let n = c.args.place in
    let e = c.args.operands.now in
    let e' = c.prepared.new.operands in
    let w' = c.thrown.new.heap in
    let k : Option Hint = Some hint.Number in
    let ready = ready_of O (wants_at n k None) None w h e.done c.in_ok-moved.field-0 e' c.prepared.new.heap c.in_default.is c.in_ok-moved.ensures.value in
    let stays = none_of c.in_ok-moved.field-0 _ _ c.in_default.is c.in_ok-moved.ensures.stays in
    let is : c.operand.result.now ≡ operand_at e.done n = c.operand.ensures.value ∙ ap (λ y. operand_at y.done n) stays.0 in
    let none : AreNext c.args.operator (operand_at e.done n) None = subst (λ v. AreNext c.args.operator v None) is c.in-None.ensures in
    let given : gives (thrown RangeError w h) ≡ made_of a r e' c.given.result w' h =
    ap (λ y. gives (thrown RangeError y h)) (sym stays.1) ∙ ap gives c.in_ok-answered-in-None.ensures.value ∙ c.given.ensures.made a r e' w' h in
    stored_nothing O w h n c.args.operator e ready.made none r s put (made_of a r e' c.given.result w' h) given

pub returns-in-Some-clause-shape : goal.returns-in-Some-clause-shape
returns-in-Some-clause-shape g c = λ n.
    let e = c.args.operands.now in
    some_so n e c.prepared.new.operands c.in-Some.moved c.in_ok-moved.field-0 c.in-Some.is (c.in_ok-moved.ensures.shape n e tt refl)

pub returns-clause-shape : goal.returns-clause-shape
returns-clause-shape g c = λ n.
    c.given.ensures.shape n c.args.operands.now c.prepared.new.operands
