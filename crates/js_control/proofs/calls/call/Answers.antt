use Rattle.std.proofs.Common.{◌≡◌, List, IfSome, Some, drop, refl, ap, subst, sym, ◌∙◌}
use Rattle.js_value.specs.declared.value.Value.{Value}
use Rattle.js_host.specs.Natives as natives
use Rattle.js_host.specs.There.{AreThere}
use Rattle.js_reference.specs.Callables.{native_of}
use Rattle.js_reference.specs.Hosted.{hosted}
use Rattle.js_operands.proofs.Guards.{converts_of, none_of, ready_of}
use Rattle.js_control.proofs.Requests.{call_named, request_made, request_shaped, request_there}
use Rattle.js_control.proofs.Windows.{window_there}
use Rattle.js_control.specs.Calls.{call_with, on_window}
use Rattle.js_operands.specs.Conversions.{hints, prepared}
use Rattle.js_operands.specs.ExprMoves.{operand_names}
use Rattle.js_operands.specs.Made.{Made}
use Rattle.js_operands.specs.Rows.{ExprRow}
use Rattle.js_operands.specs.Shapes.{IsShaped}
use Rattle.js_operands.specs.Steps.{operand_at}
use Rattle.js_operands.specs.declared.expr_move.ExprMove.TheVariants as move
use Rattle.js_operands.specs.declared.row.Phase.TheVariants as phase
use Rattle.js_operands.specs.declared.wants.Wants.TheVariants as wants
use Rattle.js_control.proofs.calls.call.Goals as goal

pub returns-in-Some-clause-value : goal.returns-in-Some-clause-value
returns-in-Some-clause-value g c = λ a.
    let O = hosted g.H.Host.rows in
    let w = c.args.heap.now in
    let h = c.args.host.now in
    let on = c.in_ok-on.on in
    let same : on.done ≡ on_window c.args.operands.now.done = ap (λ e. e.done) c.in_ok-on.ensures.value in
    let native : c.native_of.result ≡ native_of w (operand_at on.done 0) = c.native_of.ensures ∙ ap (native_of w) c.operand.ensures.value in
    let made = Made.Calls (operand_at on.done 0) (call_with (operand_at on.done 1) (drop 2 on.done)) w h in
    let moves = converts_of O (hints natives.wants (wants.Call c.native_of.result)) (Some phase.CallOn) w h on.done c.in_ok-moved.field-0 c.in-Some.moved c.prepared.new.operands c.prepared.new.heap c.in-Some.is c.in_ok-moved.ensures.value in
    ap (λ (us : List Value). prepared O w h ExprRow.CallOn (hints natives.wants (wants.Call (native_of w (operand_at us 0)))) us (Made.Calls (operand_at us 0) (call_with (operand_at us 1) (drop 2 us)) w h)) (sym same)
    ∙ ap (λ n. prepared O w h ExprRow.CallOn (hints natives.wants (wants.Call n)) on.done made) (sym native) ∙ moves a ExprRow.Call made

pub returns-clause-value : goal.returns-clause-value
returns-clause-value g c = λ a.
    let O = hosted g.H.Host.rows in
    let w = c.args.heap.now in
    let h = c.args.host.now in
    let on = c.in_ok-on.on in
    let e' = c.prepared.new.operands in
    let w' = c.prepared.new.heap in
    let same : on.done ≡ on_window c.args.operands.now.done = ap (λ e. e.done) c.in_ok-on.ensures.value in
    let native : c.native_of.result ≡ native_of w (operand_at on.done 0) = c.native_of.ensures ∙ ap (native_of w) c.operand.ensures.value in
    let made = Made.Calls (operand_at on.done 0) (call_with (operand_at on.done 1) (drop 2 on.done)) w h in
    let ready = ready_of O (hints natives.wants (wants.Call c.native_of.result)) (Some phase.CallOn) w h on.done c.in_ok-moved.field-0 e' w' c.in-None.is c.in_ok-moved.ensures.value in
    let stays = none_of c.in_ok-moved.field-0 _ _ c.in-None.is c.in_ok-moved.ensures.stays in
    let is = ap (λ (us : List Value). prepared O w h ExprRow.CallOn (hints natives.wants (wants.Call (native_of w (operand_at us 0)))) us (Made.Calls (operand_at us 0) (call_with (operand_at us 1) (drop 2 us)) w h)) (sym same)
    ∙ ap (λ n. prepared O w h ExprRow.CallOn (hints natives.wants (wants.Call n)) on.done made) (sym native) ∙ ready.made ExprRow.CallOn made
    ∙ ap (λ y. Made.Calls (operand_at y.done 0) (call_with (operand_at y.done 1) (drop 2 y.done)) w h) (sym stays.0)
    ∙ ap (λ u. Made.Calls (operand_at e'.done 0) (call_with (operand_at e'.done 1) (drop 2 e'.done)) u h) (sym stays.1) in
    request_made c.request.result (operand_at e'.done 0) (call_with (operand_at e'.done 1) (drop 2 e'.done)) _ a ExprRow.Call c.args.operands.now w' h c.request.ensures is

pub returns-clause-there : goal.returns-clause-there
returns-clause-there g c =
    let hs = g.H.Host.names.host c.args.host.now in
    let w = c.args.heap.now in
    let e' = c.prepared.new.operands in
    let w' = c.prepared.new.heap in
    let stays = none_of c.in_ok-moved.field-0 _ _ c.in-None.is c.in_ok-moved.ensures.stays in
    let on = window_there w c.args.operands.now c.in_ok-on.on hs c.in_ok-on.ensures.value c.in_ok-on.ensures.window c.requires.there in
    let named = subst (λ u. AreThere u (operand_names e' hs)) (sym stays.1) (subst (λ y. AreThere w (operand_names y hs)) (sym stays.0) on) in
    let own = subst (λ u. AreThere u (operand_names c.args.operands.now hs)) (sym stays.1) c.requires.there in
    request_there c.request.result (move.Calls (operand_at e'.done 0) (call_with (operand_at e'.done 1) (drop 2 e'.done))) w' (operand_names c.args.operands.now hs) c.request.ensures (call_named w' e' hs (operand_names c.args.operands.now hs) named own)

pub returns-in-Some-clause-shape : goal.returns-in-Some-clause-shape
returns-in-Some-clause-shape g c =
    let next = Some phase.CallOn in
    let e = c.args.operands.now in
    let none : e.todo ≡ c.in_ok-on.on.todo = c.requires.coming ∙ sym (ap (λ x. x.todo) c.in_ok-on.ensures.value) in
    subst (λ o. IfSome o (λ m. IsShaped next e c.prepared.new.operands m)) c.in-Some.is (c.in_ok-moved.ensures.shape next e refl none)

pub returns-clause-shape : goal.returns-clause-shape
returns-clause-shape g c =
    let e' = c.prepared.new.operands in
    request_shaped c.request.result (operand_at e'.done 0) (call_with (operand_at e'.done 1) (drop 2 e'.done)) (Some phase.CallOn) c.args.operands.now c.args.operands.now c.request.ensures refl
