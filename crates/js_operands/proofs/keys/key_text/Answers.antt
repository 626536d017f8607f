use Rattle.std.proofs.Common.{◌≡◌, false, Some, None, refl, ap, sym, ◌∙◌}
use Rattle.js_ops.specs.Convert.{is_missing, to_text}
use Rattle.js_reference.specs.Hosted.{hosted}
use Rattle.js_operands.proofs.Guards.{keyed_there, none_of, ready_of}
use Rattle.js_operands.proofs.Shaped.{some_so}
use Rattle.js_operands.specs.Conversions.{key_wanted}
use Rattle.js_operands.specs.Steps.{operand_at}
use Rattle.js_operands.proofs.keys.key_text.Goals as goal

pub returns-clause-value : goal.returns-clause-value
returns-clause-value g c =
    let O = hosted g.H.Host.rows in
    let w = c.args.heap.now in
    let h = c.args.host.now in
    let e = c.args.operands.now in
    let vs = e.done in
    let there : is_missing (operand_at vs 0) ≡ false = sym (c.is_missing.ensures ∙ ap is_missing c.operand.ensures.value) ∙ c.if-is_missing.false in
    let ready = ready_of O key_wanted None w h vs c.in_ok-moved.field-0 c.prepared.new.operands c.prepared.new.heap c.in_default.is c.in_ok-moved.ensures.value in
    let stays = none_of c.in_ok-moved.field-0 _ _ c.in_default.is c.in_ok-moved.ensures.stays in
    record {
      made = λ r made. keyed_there O w h vs r made made there (ready.made r made);
      text = c.in_ok-key_of.ensures ∙ ap (λ x. to_text (operand_at x.done 1)) stays.0;
      same = stays.0;
      world = stays.1;
    }

pub returns-then-is_missing-clause-shape : goal.returns-then-is_missing-clause-shape
returns-then-is_missing-clause-shape g c = λ n.
    c.in_ok-type_error.ensures.shape n c.args.operands.now c.args.operands.now

pub returns-in-Some-clause-shape : goal.returns-in-Some-clause-shape
returns-in-Some-clause-shape g c = λ n.
    let e = c.args.operands.now in
    some_so n e c.prepared.new.operands c.in-Some.moved c.in_ok-moved.field-0 c.in-Some.is (c.in_ok-moved.ensures.shape n e tt refl)
