-- What a free move of a stack is.
use Rattle.std.specs.Prelude.{◌≡◌, ◌<◌, ◌⊎◌, Bool, true, false, List, [], Option}
use Rattle.std.specs.Prelude.{Some, None, length, take, ◌-◌, slice_get}
use Rattle.std.specs.Prelude.{if◌then◌else◌, unwrap_or}
use Rattle.std.specs.Option.{option_map}
use Rattle.js_value.specs.declared.value.Value.{Value}
use Rattle.js_heap.specs.World.{World}
use Rattle.js_term.specs.Evaluation.{taken}
use Rattle.js_term.specs.Moves.{stack_weight}
use Rattle.js_term.specs.declared.context.Context.{Context}
use Rattle.js_term.specs.declared.operands.Operand.{Operand}
use Rattle.js_term.specs.declared.operands.Operand.TheVariants as operand
use Rattle.js_tree.specs.Arena.{node_at}
use Rattle.js_tree.specs.declared.node.NodeId.{NodeId}
use Rattle.js_tree.specs.declared.node.Node.{Node}
use Rattle.js_tree.specs.declared.node.Node.TheVariants as node
use Rattle.js_stmt.specs.declared.phase.StmtPhase.{StmtPhase}
use Rattle.js_stmt.specs.declared.phase.StmtPhase.TheVariants as phase
use Rattle.js_rows.specs.Row.{text_of}
use Rattle.js_rows.specs.Syntax.{has_no_step}
use Rattle.js_frames.specs.Arenas.{Arenas, arena_of}
use Rattle.js_frames.specs.Dues.{IsDue}
use Rattle.js_frames.specs.Names.{StackIsThere}
use Rattle.js_frames.specs.Reading.{stack_of, syntax, term}
use Rattle.js_frames.specs.Rows.{frame_row, place_at}
use Rattle.js_frames.specs.Soundness.{IsSound, contexts_of, moved_rows}
use Rattle.js_frames.specs.declared.due.Due.{Due}
use Rattle.js_frames.specs.declared.frame.Frame.{Frame}
use Rattle.js_frames.specs.declared.frame.Site.{Site}
use Rattle.js_frames.specs.declared.frame.Work.{Work}
use Rattle.js_frames.specs.declared.frame.Work.TheVariants as work
use Rattle.js_frames.specs.declared.moves.NextMove.{NextMove}
use Rattle.js_frames.specs.declared.moves.NextMove.TheVariants as next
use Rattle.js_frames.specs.declared.stack.Stack.{Stack}

-- all but the last
abbrev pub front : {X : Type 0} → List X → List X
front xs = take (length xs - 1) xs

-- a labelled statement that begins
abbrev pub is_labelled : Option Node → StmtPhase → Bool
is_labelled (Some (node.Labelled l s)) phase.Begun = true
is_labelled n p = false

abbrev pub node_in : Arenas → Option Site → Option Node
node_in ts (Some s) = node_at (arena_of ts s.text) s.node
node_in ts None = None

-- the move to an operand
abbrev pub move_of : Operand → NextMove
move_of (operand.Value v) = next.Take v
move_of (operand.Node id) = next.Begin id

module _ {D : Type 0} where
  -- with the value of its next operand
  abbrev pub with_value : Value → Frame D → Frame D
  with_value v f = record f { operands = taken v f.operands }

  -- the context of its operands, and that around it, where this one is where it stands
  abbrev pub inner_in : Frame D → Context → Context
  inner_in f c = unwrap_or (option_map (λ b. b.inner) (contexts_of f)) c

  abbrev pub outer_in : Frame D → Context → Context
  outer_in f c = unwrap_or (option_map (λ b. b.outer) (contexts_of f)) c

  -- the outermost labelled statement directly around an operand, or the operand itself
  abbrev pub outermost_by : Arenas → Option Site → Work D → NodeId → NodeId
  outermost_by ts s (work.Statement state k) id =
      if is_labelled (node_in ts s) state.phase then state.outermost else id
  outermost_by ts s w id = id

  abbrev pub outermost_of : Arenas → Frame D → NodeId → NodeId
  outermost_of ts f id = outermost_by ts f.site f.work id

  -- where an operand stands
  abbrev pub site_of : Arenas → Frame D → NodeId → Site
  site_of ts f id = record { text = text_of (place_at ts f.site f.work); node = id }

  module _ (ts : Arenas) where
    -- the term is the same, and fewer moves are left
    pub record Advances (s s' : Stack D) : Type 0 where
      pub same : term ts s' ≡ term ts s
      pub lighter : stack_weight (syntax ts) (stack_of ts s') < stack_weight (syntax ts)
          (stack_of ts s)
      pub sound : IsSound ts s'
      pub base : s'.base ≡ s.base
      pub there : (dispatched : D → List Value) (w : World) → StackIsThere dispatched w s
          → StackIsThere dispatched w s'

    -- what a frame that rests does next
    abbrev pub MovesBy : Frame D → NextMove → Type 0
    MovesBy f next.Step =
        (has_no_step (frame_row ts f) ≡ false)
        × ((f.operands.todo ≡ []) ⊎ (moved_rows.is_early
        (frame_row ts f) f.operands.done ≡ true))
    MovesBy f next.Finish = (has_no_step (frame_row ts f) ≡ true) × (f.operands.todo ≡ [])
    MovesBy f (next.Take v) =
        (moved_rows.is_early (frame_row ts f) f.operands.done ≡ false)
        × (slice_get f.operands.todo 0 ≡ Some (operand.Value v))
    MovesBy f (next.Begin id) =
        (moved_rows.is_early (frame_row ts f) f.operands.done ≡ false)
        × (slice_get f.operands.todo 0 ≡ Some (operand.Node id))

    -- a move, or nothing was done and this is due
    abbrev pub Advanced : Stack D → Stack D → Option Due → Type 0
    Advanced s s' None = Advances s s'
    Advanced s s' (Some d) = (s' ≡ s) × IsDue ts s d
