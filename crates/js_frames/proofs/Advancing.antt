-- Each move of a stack is a free one: it changes no term, and keeps what holds of stacks.
use Rattle.std.proofs.Common.{◌≡◌, ◌<◌, true, false, List, [], ◌∷◌, ◌++◌, Some}
use Rattle.std.proofs.Common.{length, drop, slice_get, ap, sym, subst, ◌∙◌}
use Rattle.std.proofs.lemmas.Option.{slice_get_within}
use Rattle.js_value.specs.declared.value.Value.{Value}
use Rattle.js_value.specs.declared.value.Value.TheVariants as value
use Rattle.js_heap.specs.Closed.{Each}
use Rattle.js_heap.specs.World.{World}
use Rattle.js_host.proofs.Lists.{each-right}
use Rattle.js_tree.specs.declared.node.NodeId.{NodeId}
use Rattle.js_term.specs.declared.operands.Operand.{Operand}
use Rattle.js_term.specs.declared.operands.Operand.TheVariants as operand
use Rattle.js_rows.specs.Syntax.{has_no_step}
use Rattle.js_frames.specs.Arenas.{AreOrdered, Arenas}
use Rattle.js_frames.specs.Begun.{begun_focus, begun_frames}
use Rattle.js_frames.specs.Names.{StackIsThere}
use Rattle.js_frames.specs.Reading.{last, stack_of}
use Rattle.js_frames.specs.Rows.{frame_row}
use Rattle.js_frames.specs.Soundness.{Awaits, IsPlaced, IsSound, moved_rows}
use Rattle.js_frames.specs.declared.frame.Focus.TheVariants as focus
use Rattle.js_frames.specs.declared.frame.Frame.{Frame}
use Rattle.js_frames.specs.declared.stack.Stack.{Stack}
use Rattle.js_frames.specs.inner.Advances.{Advances, front, inner_in, outer_in, outermost_of}
use Rattle.js_frames.specs.inner.Advances.{site_of, with_value}
use Rattle.js_frames.proofs.FreeMoves.{Moved, begin-moves, finish-moves, taken-moves, value-moves}
use Rattle.js_frames.proofs.Kept.{begun-sound, rests-now, rests-still, waits-now}
use Rattle.js_frames.proofs.Leads.{operand-leads}
use Rattle.js_frames.proofs.Sounds.{Resting, Waiting, rest-sound, resting-of, value-sound}
use Rattle.js_frames.proofs.Sounds.{waiting-of}
use Rattle.js_frames.proofs.Theres.{begin-there, finish-there, take-there, value-there}
use Rattle.js_frames.proofs.Tops.{push-view}

-- the operand that comes next, and those behind it
next-view : (xs : List Operand) (x : Operand) → slice_get xs 0 ≡ Some x
    → xs ≡ x ∷ drop 1 xs
next-view [] x e = cc
next-view (y ∷ xs) x e = cc

-- each frame that waits, waits for an operand
pub last-awaits : {D : Type 0} (fs : List (Frame D)) (f : Frame D) → Each Awaits fs
    → last fs ≡ Some f → 0 < length f.operands.todo
last-awaits fs f h e = (each-right Awaits (front fs) (f ∷ []) (subst (Each Awaits)
    (push-view fs f e) h)).0

module _ (D : Type 0) (ts : Arenas) (ordered : AreOrdered ts) (s s' : Stack D) (f : Frame D)
    (sound : IsSound ts s)
    (is : last s.frames.items ≡ Some f) (base : s'.base ≡ s.base) where
  abbrev fs : List (Frame D)
  fs = front s.frames.items

  view : s.frames.items ≡ fs ++ f ∷ []
  view = push-view s.frames.items f is

  advances : Moved D ts ordered (stack_of ts s) (stack_of ts s') → IsSound ts s'
      → ((dispatched : D → List Value) (w : World) → StackIsThere dispatched w s
      → StackIsThere dispatched w s') → Advances ts s s'
  advances m h there = record {
    same = m.same;
    lighter = m.lighter;
    sound = h;
    base = base;
    there = there;
  }

  module _ (at : s.focus ≡ focus.Resting) where
    rests : Resting ts s.base s.context fs f
    rests = resting-of ts s fs f at view sound

    pub placed-top : IsPlaced ts f
    placed-top = rests.placed

    -- the frame is finished without a step
    pub finish-advances : s'.focus ≡ focus.Value value.Undefined → s'.frames.items ≡ fs
        → s'.context ≡ s.context
        → f.operands.todo ≡ [] → has_no_step (frame_row ts f) ≡ true → Advances ts s s'
    finish-advances at' e c none free =
        advances (finish-moves D ts ordered s s' fs f at view at' e none free)
        (value-sound ts s' value.Undefined fs at' e
        (subst (λ b. Waiting ts b s'.context fs) (sym base) (subst (λ x. Waiting ts s.base x fs)
        (sym c) rests.waiting)))
        (λ dispatched w h. finish-there w D dispatched s s' fs f view base h at' e c)

    -- its next operand is a value
    pub value-advances : (v : Value) → s'.focus ≡ focus.Resting
        → s'.frames.items ≡ fs ++ with_value v f ∷ [] → s'.context ≡ s.context
        → slice_get f.operands.todo 0 ≡ Some (operand.Value v) → moved_rows.is_early
        (frame_row ts f) f.operands.done ≡ false → Advances ts s s'
    value-advances v at' e c first early =
        let todo : List Operand = drop 1 f.operands.todo in
        let next : f.operands.todo ≡ operand.Value v ∷ todo = next-view f.operands.todo
        (operand.Value v) first in
        advances (value-moves D ts ordered s s' fs f v todo at view at' e next)
        (rest-sound ts s' fs (with_value v f) at' e
        (subst (λ b. Resting ts b s'.context fs (with_value v f)) (sym base)
        (subst (λ x. Resting ts s.base x fs (with_value v f)) (sym c)
        (rests-still D ts s.base s.context fs f v rests early))))
        (λ dispatched w h. value-there w D dispatched s s' fs f view base h v todo next at' e c)

    -- its next operand begins
    pub begin-advances : (id : NodeId) → s'.focus ≡ begun_focus ts (site_of ts f id)
        → s'.frames.items ≡ s.frames.items ++ begun_frames ts (site_of ts f id)
        (outermost_of ts f id) → s'.context ≡ inner_in f s.context
        → slice_get f.operands.todo 0 ≡ Some (operand.Node id) → moved_rows.is_early
        (frame_row ts f) f.operands.done ≡ false → Advances ts s s'
    begin-advances id at' e c first early =
        let todo : List Operand = drop 1 f.operands.todo in
        let next : f.operands.todo ≡ operand.Node id ∷ todo = next-view f.operands.todo
        (operand.Node id) first in
        let all : s'.frames.items ≡ (fs ++ f ∷ []) ++ begun_frames ts (site_of ts f id)
        (outermost_of ts f id) =
        e ∙ ap (λ gs. gs ++ begun_frames ts (site_of ts f id) (outermost_of ts f id)) view in
        let waits : Waiting ts s.base s'.context (fs ++ f ∷ []) =
        waits-now D ts s.base s.context s'.context fs f rests (slice_get_within f.operands.todo 0
        (operand.Node id) first) early c in
        advances (begin-moves D ts ordered s s' fs f id todo rests.placed at view at' all next)
        (begun-sound D ts (site_of ts f id) (outermost_of ts f id)
        (operand-leads D ts ordered f id rests.placed first) (fs ++ f ∷ []) s'
        (subst (λ b. Waiting ts b s'.context (fs ++ f ∷ [])) (sym base) waits) at' all)
        (λ dispatched w h. begin-there w D dispatched s s' fs f view base h ts (site_of ts f id)
        (outermost_of ts f id) at' all c)

  -- the value that it has waited for is taken
  pub take-advances : (v : Value) → s.focus ≡ focus.Value v → s'.focus ≡ focus.Resting
      → s'.frames.items ≡ fs ++ with_value v f ∷ []
      → s'.context ≡ outer_in f s.context → Advances ts s s'
  take-advances v at at' e c =
      let waits : Waiting ts s.base s.context (fs ++ f ∷ []) = waiting-of ts s v
      (fs ++ f ∷ []) at view sound in
      advances (taken-moves D ts ordered s s' fs f v at view at' e)
      (rest-sound ts s' fs (with_value v f) at' e
      (subst (λ b. Resting ts b s'.context fs (with_value v f)) (sym base)
      (rests-now D ts s.base s.context s'.context fs f v waits c)))
      (λ dispatched w h. take-there w D dispatched s s' fs f view base h v at at' e c)
