-- Calls and `new` (ECMA-262 edition 5.1, 11.2.2, 11.2.3). Where the callee is a member, one step
-- reads it, and then the arguments are evaluated. What a native wants as a text or a number is
-- converted before the call, `this` first; any other callee's arguments stay as they are.
use Rattle.std.specs.Prelude.{ℕ, true, false, List, [], ◌∷◌, drop}
use Rattle.js_value.specs.declared.value.Value.{Value}
use Rattle.js_value.specs.declared.value.Value.TheVariants as value
use Rattle.js_ops.specs.Convert.{to_text}
use Rattle.js_heap.specs.World.{World}
use Rattle.js_host.specs.declared.call.NativeCall.{NativeCall}
use Rattle.js_reference.specs.Callables.{native_of}
use Rattle.js_reference.specs.Own.{OwnProperties}
use Rattle.js_reference.specs.Properties.{read}
use Rattle.js_reference.specs.Puts.{window}
use Rattle.js_tree.specs.Trees.{Tree}
use Rattle.js_operands.specs.Made.{Made}
use Rattle.js_operands.specs.Rows.ExprRow.{CallIndex, CallOn, New}
use Rattle.js_operands.specs.Setting.{HostFacts}
use Rattle.js_operands.specs.Steps.{call_node, goes_on, operand_at}
use Rattle.js_operands.specs.Conversions.{hints, keyed, prepared}
use Rattle.js_operands.specs.declared.wants.Wants.TheVariants as wants

-- a call on `this`, and a `new`
abbrev pub call_with : (this : Value) → List Value → NativeCall
call_with this vs = record { construct = false; this = this; args = vs }

abbrev pub new_with : List Value → NativeCall
new_with vs = record { construct = true; this = value.Undefined; args = vs }

-- what is no member is called on the window
abbrev pub on_window : List Value → List Value
on_window [] = []
on_window (f ∷ vs) = f ∷ value.Ref window ∷ vs

module _ {H : Type 0} (F : HostFacts H) (w : World) (h : H) where
  abbrev pub call_on_row : List Value → Made H
  call_on_row vs =
      let f : Value = operand_at vs 0 in
      prepared F.own w h CallOn (hints F.wants (wants.Call (native_of w f))) vs
      (Made.Calls f (call_with (operand_at vs 1) (drop 2 vs)) w h)

  abbrev pub call_row : List Value → Made H
  call_row vs = call_on_row (on_window vs)

  abbrev pub new_row : List Value → Made H
  new_row vs =
      let f : Value = operand_at vs 0 in
      prepared F.own w h New (hints F.wants (wants.New (native_of w f))) vs
      (Made.Calls f (new_with (drop 1 vs)) w h)

module _ {H : Type 0} (O : OwnProperties H) (w : World) (h : H) where
  -- the step that reads the function
  abbrev pub call_member_row : List ℕ → List Tree → List Value → Made H
  call_member_row k xs vs =
      let e : Value = operand_at vs 0 in goes_on (call_node xs e) (read O w h e k)

  abbrev pub call_index_row : List Tree → List Value → Made H
  call_index_row xs vs =
      let e : Value = operand_at vs 0 in
      keyed O w h (CallIndex xs) vs
      (goes_on (call_node xs e) (read O w h e (to_text (operand_at vs 1))))
