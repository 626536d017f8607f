-- What holds of each stack that a run comes to.
use Rattle.std.specs.Prelude.{◌≡◌, ℕ, ◌+◌, ◌<◌, Bool, true, false, List, [], ◌∷◌}
use Rattle.std.specs.Prelude.{Option, Some, None, length, map}
use Rattle.std.specs.Option.{option_map}
use Rattle.js_value.specs.Image.{is_primitive}
use Rattle.js_value.specs.declared.value.Value.{Value}
use Rattle.js_value.specs.declared.value.Value.TheVariants as value
use Rattle.js_ops.specs.Convert.{is_missing}
use Rattle.js_heap.specs.Closed.{Each}
use Rattle.js_tree.specs.Arena.{Arena, node_at}
use Rattle.js_tree.specs.declared.node.Node.{Node}
use Rattle.js_tree.specs.declared.node.Node.TheVariants as node
use Rattle.js_tree.specs.declared.node.NodeId.{NodeId}
use Rattle.js_term.specs.Evaluation.{Evaluation}
use Rattle.js_term.specs.Frames.{AreSettled, context_at, passes}
use Rattle.js_term.specs.Table.{Table}
use Rattle.js_term.specs.Table.Step.{Gives}
use Rattle.js_term.specs.Term.Term.{Val}
use Rattle.js_term.specs.declared.context.Context.{Context}
use Rattle.js_term.specs.declared.operands.Operand.{Operand}
use Rattle.js_term.specs.declared.operands.Operand.TheVariants as operand
use Rattle.js_operands.specs.Rows.{ExprRow}
use Rattle.js_operands.specs.declared.row.Phase.TheVariants as expr_phase
use Rattle.js_control.specs.Make.{expr_is_early}
use Rattle.js_stmt.specs.Make.{inner_stmt}
use Rattle.js_stmt.specs.declared.phase.StmtPhase.{StmtPhase}
use Rattle.js_stmt.specs.declared.phase.StmtPhase.TheVariants as phase
use Rattle.js_rows.specs.Hosted.{PageRow}
use Rattle.js_rows.specs.Row.{Row}
use Rattle.js_rows.specs.Row.Row.{Expression, Statement}
use Rattle.js_rows.specs.Syntax.{has_no_step}
use Rattle.js_frames.specs.Arenas.{Arenas, arena_of}
use Rattle.js_frames.specs.Reading.{below, last, stack_of, waits}
use Rattle.js_frames.specs.Rows.{expression_at, frame_row}
use Rattle.js_frames.specs.declared.frame.Contexts.{Contexts}
use Rattle.js_frames.specs.declared.frame.Focus.{Focus}
use Rattle.js_frames.specs.declared.frame.Focus.TheVariants as focus
use Rattle.js_frames.specs.declared.frame.Frame.{Frame}
use Rattle.js_frames.specs.declared.frame.Site.{Site}
use Rattle.js_frames.specs.declared.frame.StmtState.{StmtState}
use Rattle.js_frames.specs.declared.frame.Work.{Work}
use Rattle.js_frames.specs.declared.frame.Work.TheVariants as work
use Rattle.js_frames.specs.declared.stack.Stack.{Stack}

module _ {F : Type 0} where
  -- where a row's operands are evaluated, and which rows make an early step
  abbrev pub inner_of : Row F → Context → Context
  inner_of (Statement r) c = inner_stmt r c
  inner_of r c = c

  abbrev pub early_of : Row F → List Value → Bool
  early_of (Expression r) vs = expr_is_early r vs
  early_of r vs = false

-- The table of all rows as far as free moves look at it, which come to no step. In the table of any
-- host its rows wait, rest and evaluate their operands as in this one.
abbrev pub moved_rows : {D : Type 0} → Table (PageRow D) (Unit {0})
moved_rows = record {
  no_step = has_no_step;
  inner = λ r c. inner_of r.row c;
  is_early = λ r vs. early_of r.row vs;
  early = λ c w h r vs ts. Gives (Val value.Undefined) w h;
  make = λ c w h r vs. Gives (Val value.Undefined) w h;
  meets = λ c w h r k. Gives (Val value.Undefined) w h;
  enters = λ c w h r vs. None;
  before = λ w h f r vs. None;
  behind = λ h f stopped. None;
}

-- a node is one of its text's
abbrev pub IsNode : Arena → NodeId → Type 0
IsNode a id = id.number < length a.kept

abbrev pub HasNode : Arenas → Option Site → Type 0
HasNode ts (Some s) = IsNode (arena_of ts s.text) s.node
HasNode ts None = Unit {0}

-- from the one node labelled statements lead to the other, each directly in the one before; or both
-- are one
pub data LeadsTo (a : Arena) : NodeId → NodeId → Type 0 where
  Here : (n : NodeId) → LeadsTo a n n
  Inwards : (l : List ℕ) (o s n : NodeId) → node_at a o ≡ Some (node.Labelled l s)
      → LeadsTo a s n → LeadsTo a o n

abbrev pub IsThis : NodeId → Operand → Type 0
IsThis n (operand.Node id) = id ≡ n
IsThis n (operand.Value v) = Unit {0}

-- a labelled statement that begins waits for no node but its statement
abbrev pub AwaitsBody : Option Node → StmtPhase → List Operand → Type 0
AwaitsBody (Some (node.Labelled l s)) phase.Begun xs = Each (IsThis s) xs
AwaitsBody n p xs = Unit {0}

-- a statement knows the labels directly around it
pub record IsLabelled (a : Arena) (n : NodeId) (state : StmtState) (xs : List Operand) : Type 0
  where
    pub leads : LeadsTo a state.outermost n
    pub body : AwaitsBody (node_at a n) state.phase xs

-- behind the step that reads the target of `op=` its base is neither undefined nor null, and its key
-- is a primitive value
abbrev pub HasTarget : ExprRow → List Value → Type 0
HasTarget (ExprRow.ComputeMember o k) (e ∷ vs) = is_missing e ≡ false
HasTarget (ExprRow.ComputeMember o k) vs = ⊥
HasTarget (ExprRow.ComputeIndex o) (e ∷ k ∷ vs) = (is_missing e ≡ false) × (is_primitive k ≡ true)
HasTarget (ExprRow.ComputeIndex o) vs = ⊥
HasTarget r vs = Unit {0}

-- before that step a base and a key are among the operands
abbrev pub HasOperands : ExprRow → Evaluation → Type 0
HasOperands (ExprRow.ReviseIndex o t) e = 1 < length e.done + length e.todo
HasOperands r e = Unit {0}

module _ {D : Type 0} where
  abbrev pub WorkHasTarget : Arenas → Option Site → Work D → Evaluation → Type 0
  WorkHasTarget ts s (work.Expression expr_phase.Begun) e =
      HasOperands (expression_at ts s expr_phase.Begun) e
  WorkHasTarget ts s (work.Expression expr_phase.Store) e =
      HasOperands (expression_at ts s expr_phase.Store) e
  WorkHasTarget ts s (work.Expression expr_phase.Compute) e =
      HasTarget (expression_at ts s expr_phase.Compute) e.done
  WorkHasTarget ts s w e = Unit {0}

  abbrev pub WorkIsLabelled : Arenas → Option Site → Work D → List Operand → Type 0
  WorkIsLabelled ts (Some s) (work.Statement state k) xs =
      IsLabelled (arena_of ts s.text) s.node state xs
  WorkIsLabelled ts s w xs = Unit {0}

  -- a frame stands at a node that is there, knows the labels around it, and has its target's operands
  pub record IsPlaced (ts : Arenas) (f : Frame D) : Type 0 where
    pub node : HasNode ts f.site
    pub labels : WorkIsLabelled ts f.site f.work f.operands.todo
    pub target : WorkHasTarget ts f.site f.work f.operands

  abbrev pub Awaits : Frame D → Type 0
  Awaits f = 0 < length f.operands.todo

  -- a frame in this context has contexts just where its row's operands have another one
  abbrev pub HasContexts : PageRow D → Context → Option Contexts → Type 0
  HasContexts r c (Some b) = (b.outer ≡ c) × (b.inner ≡ inner_of r.row c)
  HasContexts r c None = inner_of r.row c ≡ c

  abbrev pub contexts_of : Frame D → Option Contexts
  contexts_of f = option_map (λ b. b.value) f.contexts

  abbrev pub StandsIn : Arenas → Context → Frame D → Type 0
  StandsIn ts c f = HasContexts (frame_row ts f) c (contexts_of f)

  -- each of these frames stands in the context of the operands of the one below it
  abbrev pub AreNested : Arenas → Context → List (Frame D) → Type 0
  AreNested ts c [] = Unit {0}
  AreNested ts c (f ∷ fs) =
      StandsIn ts c f × AreNested ts (inner_of (frame_row ts f).row c) fs

  -- frames that all wait, over this base, where this context is that at their top
  pub record AreWaiting (ts : Arenas) (base c : Context) (fs : List (Frame D)) : Type 0 where
    pub placed : Each (IsPlaced ts) fs
    pub awaits : Each Awaits fs
    pub settled : AreSettled moved_rows (map (waits ts) fs)
    pub nested : AreNested ts base fs
    pub context : c ≡ context_at moved_rows (map (waits ts) fs) base

  -- of a frame that rests in this context no early step was left out
  pub record IsResting (ts : Arenas) (c : Context) (f : Frame D) : Type 0 where
    pub passes : passes moved_rows.is_early (frame_row ts f) [] f.operands.done ≡ true
    pub context : StandsIn ts c f

  abbrev pub TopRests : Arenas → Context → Focus → Option (Frame D) → Type 0
  TopRests ts c focus.Resting (Some f) = IsResting ts c f
  TopRests ts c focus.Resting None = ⊥
  TopRests ts c t f = Unit {0}

  pub record IsSound (ts : Arenas) (s : Stack D) : Type 0 where
    pub placed : Each (IsPlaced ts) s.frames.items
    pub awaits : Each Awaits (below s.focus s.frames.items)
    pub settled : AreSettled moved_rows (stack_of ts s).frames
    pub nested : AreNested ts s.base (below s.focus s.frames.items)
    pub context : s.context ≡ context_at moved_rows (stack_of ts s).frames s.base
    pub top : TopRests ts s.context s.focus (last s.frames.items)
