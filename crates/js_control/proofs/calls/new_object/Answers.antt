use Rattle.std.proofs.Common.{◌≡◌, None, drop, ap, subst, sym, ◌∙◌, refl}
use Rattle.js_value.specs.declared.value.Value.{Value}
use Rattle.js_host.specs.Natives as natives
use Rattle.js_host.specs.There.{AreThere}
use Rattle.js_reference.specs.Callables.{native_of}
use Rattle.js_reference.specs.Hosted.{hosted}
use Rattle.js_operands.proofs.Guards.{converts_of, none_of, ready_of}
use Rattle.js_control.proofs.Requests.{new_named, request_made, request_shaped, request_there}
use Rattle.js_control.specs.Calls.{call_with, new_with}
use Rattle.js_operands.specs.Conversions.{hints, prepared}
use Rattle.js_operands.specs.ExprMoves.{operand_names}
use Rattle.js_operands.specs.Made.{Made}
use Rattle.js_operands.specs.Rows.{ExprRow}
use Rattle.js_operands.specs.Steps.{operand_at}
use Rattle.js_operands.specs.declared.expr_move.ExprMove.TheVariants as move
use Rattle.js_operands.specs.declared.wants.Wants.TheVariants as wants
use Rattle.js_operands.proofs.Shaped.{some_so}
use Rattle.js_control.proofs.calls.new_object.Goals as goal

pub returns-in-Some-clause-value : goal.returns-in-Some-clause-value
returns-in-Some-clause-value g c = λ a.
    let O = hosted g.H.Host.rows in
    let w = c.args.heap.now in
    let h = c.args.host.now in
    let vs = c.args.operands.now.done in
    let native : c.native_of.result ≡ native_of w (operand_at vs 0) = c.native_of.ensures ∙ ap (native_of w) c.operand.ensures.value in
    let made = Made.Calls (operand_at vs 0) (new_with (drop 1 vs)) w h in
    let moves = converts_of O (hints natives.wants (wants.New c.native_of.result)) None w h vs c.in_ok-moved.field-0 c.in-Some.moved c.prepared.new.operands c.prepared.new.heap c.in-Some.is c.in_ok-moved.ensures.value in
    ap (λ n. prepared O w h ExprRow.New (hints natives.wants (wants.New n)) vs made) (sym native) ∙ moves a ExprRow.New made

pub returns-clause-value : goal.returns-clause-value
returns-clause-value g c = λ a.
    let O = hosted g.H.Host.rows in
    let w = c.args.heap.now in
    let h = c.args.host.now in
    let vs = c.args.operands.now.done in
    let e' = c.prepared.new.operands in
    let w' = c.prepared.new.heap in
    let native : c.native_of.result ≡ native_of w (operand_at vs 0) = c.native_of.ensures ∙ ap (native_of w) c.operand.ensures.value in
    let made = Made.Calls (operand_at vs 0) (new_with (drop 1 vs)) w h in
    let ready = ready_of O (hints natives.wants (wants.New c.native_of.result)) None w h vs c.in_ok-moved.field-0 e' w' c.in-None.is c.in_ok-moved.ensures.value in
    let stays = none_of c.in_ok-moved.field-0 _ _ c.in-None.is c.in_ok-moved.ensures.stays in
    let is = ap (λ n. prepared O w h ExprRow.New (hints natives.wants (wants.New n)) vs made) (sym native) ∙ ready.made ExprRow.New made
    ∙ ap (λ y. Made.Calls (operand_at y.done 0) (new_with (drop 1 y.done)) w h) (sym stays.0)
    ∙ ap (λ u. Made.Calls (operand_at e'.done 0) (new_with (drop 1 e'.done)) u h) (sym stays.1) in
    request_made c.new_request.result (operand_at e'.done 0) (new_with (drop 1 e'.done)) _ a ExprRow.New e' w' h c.new_request.ensures is

pub returns-clause-there : goal.returns-clause-there
returns-clause-there g c =
    let hs = g.H.Host.names.host c.args.host.now in
    let e' = c.prepared.new.operands in
    let w' = c.prepared.new.heap in
    let stays = none_of c.in_ok-moved.field-0 _ _ c.in-None.is c.in_ok-moved.ensures.stays in
    let named = subst (λ u. AreThere u (operand_names e' hs)) (sym stays.1) (subst (λ y. AreThere c.args.heap.now (operand_names y hs)) (sym stays.0) c.requires.there) in
    request_there c.new_request.result (move.Calls (operand_at e'.done 0) (new_with (drop 1 e'.done))) w' (operand_names e' hs) c.new_request.ensures (new_named w' e' hs (operand_names e' hs) named named)

pub returns-clause-shape : goal.returns-clause-shape
returns-clause-shape g c = λ n.
    let e' = c.prepared.new.operands in
    let stays = none_of c.in_ok-moved.field-0 _ _ c.in-None.is c.in_ok-moved.ensures.stays in
    request_shaped c.new_request.result (operand_at e'.done 0) (new_with (drop 1 e'.done)) n c.args.operands.now e' c.new_request.ensures stays.0

pub returns-in-Some-clause-shape : goal.returns-in-Some-clause-shape
returns-in-Some-clause-shape g c = λ n.
    let e = c.args.operands.now in
    some_so n e c.prepared.new.operands c.in-Some.moved c.in_ok-moved.field-0 c.in-Some.is (c.in_ok-moved.ensures.shape n e tt refl)
