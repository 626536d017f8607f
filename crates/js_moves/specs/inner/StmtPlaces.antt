-- What a move of a statement makes of the last frame.
use Rattle.std.specs.Prelude.{◌≡◌, ℕ, List, [], ◌∷◌, ◌++◌, Option, Some, None, unwrap_or}
use Rattle.std.specs.Option.{option_map}
use Rattle.js_value.specs.declared.value.Value.{Value}
use Rattle.js_value.specs.declared.value.Value.TheVariants.{Undefined}
use Rattle.js_heap.specs.Closed.{IsThere}
use Rattle.js_heap.specs.World.{World}
use Rattle.js_host.specs.Names.{option_names}
use Rattle.js_host.specs.There.{AreThere}
use Rattle.js_tree.specs.TreeAt.{tree_at}
use Rattle.js_term.specs.Evaluation.{Evaluation}
use Rattle.js_term.specs.Frames as frames
use Rattle.js_term.specs.Place.Place.{At}
use Rattle.js_term.specs.Term.{Term}
use Rattle.js_term.specs.Term.Term.{Stop, Val}
use Rattle.js_term.specs.declared.context.Context.{Context}
use Rattle.js_stmt.specs.CodeRows.{completion_names}
use Rattle.js_stmt.specs.Lent.{kept_over}
use Rattle.js_stmt.specs.NodeRows.{kept_object}
use Rattle.js_stmt.specs.Rows.{StmtRow}
use Rattle.js_stmt.specs.declared.kept.StmtKept.{StmtKept}
use Rattle.js_stmt.specs.declared.kept.StmtKept.TheVariants as kept
use Rattle.js_stmt.specs.declared.phase.StmtPhase.{StmtPhase}
use Rattle.js_stmt.specs.declared.phase.StmtPhase.TheVariants as phase
use Rattle.js_stmt.specs.declared.stmt_move.StmtMove.{StmtMove}
use Rattle.js_stmt.specs.declared.stmt_move.StmtMove.TheVariants as move
use Rattle.js_calls.specs.Texts.{body_unit}
use Rattle.js_rows.specs.Hosted.{PageRow}
use Rattle.js_rows.specs.Row.{placed}
use Rattle.js_rows.specs.Row.Row.{Statement}
use Rattle.js_rows.specs.Syntax.{has_no_step, term_at}
use Rattle.js_frames.specs.Arenas.{Arenas, arena_of}
use Rattle.js_frames.specs.Names.{names_kept}
use Rattle.js_frames.specs.Reading.{last, syntax}
use Rattle.js_frames.specs.Rows.{no_context, place_at, work_row}
use Rattle.js_frames.specs.Soundness.{contexts_of}
use Rattle.js_frames.specs.declared.frame.Contexts.{Contexts}
use Rattle.js_frames.specs.declared.frame.Focus.TheVariants as focus
use Rattle.js_frames.specs.declared.frame.Frame.{Frame}
use Rattle.js_frames.specs.declared.frame.Site.{Site}
use Rattle.js_frames.specs.declared.frame.Work.{Work}
use Rattle.js_frames.specs.declared.frame.Work.TheVariants as work
use Rattle.js_frames.specs.declared.stack.Stack.{Stack}
use Rattle.js_frames.specs.inner.Advances.{front}
use Rattle.js_moves.specs.inner.Places.{MayRest, Puts, Stands}

-- the contexts of a catch in this scope, and of a statement in a phase, which stands in this context
abbrev pub phase_contexts : StmtPhase → Context → Option Contexts
phase_contexts (phase.Catch s) c = Some (record {
  inner = record { text = c.text; scope = Some s; this = c.this };
  outer = c;
})
phase_contexts p c = None

abbrev pub moved_contexts : StmtMove → Context → Option Contexts
moved_contexts (move.GoesOn p) c = phase_contexts p c
moved_contexts m c = None

-- the text of a node; what is no node's is in none
abbrev pub text_at : Option Site → ℕ
text_at (Some s) = s.text
text_at None = 0

module _ {D : Type 0} where
  -- a statement in another phase, and with what it keeps then
  abbrev pub in_phase : StmtPhase → Work D → Work D
  in_phase p (work.Statement state k) = work.Statement (record state { phase = p }) k
  in_phase p w = w

  abbrev pub keeping : StmtPhase → StmtKept → Work D → Work D
  keeping p k (work.Statement state old) = work.Statement (record state { phase = p }) k
  keeping p k w = w

  abbrev pub moved_work : StmtMove → Work D → Work D
  moved_work (move.GoesOn p) w = in_phase p w
  moved_work (move.Names v xs) w = keeping (phase.Names 0) (kept.Names v xs) w
  moved_work (move.Finally o) w = keeping phase.Finally (kept_over o) w
  moved_work m w = w

  -- The frame goes on so in this context: the same node, over the same operands.
  pub record IsMoved (c : Context) (m : StmtMove) (f f' : Frame D) : Type 0 where
    pub site : f'.site ≡ f.site
    pub work : f'.work ≡ moved_work m f.work
    pub operands : f'.operands ≡ f.operands
    pub contexts : contexts_of f' ≡ moved_contexts m c

  -- the last of these frames goes on so
  pub record LastMoves (c : Context) (m : StmtMove) (f : Frame D) (fs fs' : List (Frame D)) : Type 0
    where
      pub frame : Frame D
      pub items : fs' ≡ front fs ++ frame ∷ []
      pub moved : IsMoved c m f frame

  -- the frame of a body
  pub record IsBody (s : Site) (b : Contexts) (made : Option Value) (e : Evaluation)
      (f : Frame D) : Type 0 where
    pub kept : StmtKept
    pub object : kept_object kept ≡ made
    pub names : names_kept kept [] ≡ option_names made []
    pub site : f.site ≡ Some s
    pub work : f.work
        ≡ work.Statement (record { phase = phase.Body; outermost = s.node }) kept
    pub operands : f.operands ≡ e
    pub contexts : contexts_of f ≡ Some b

  module _ (ts : Arenas) where
    -- the row of a frame of these contexts, at this node
    abbrev pub row_at : Option Contexts → Option Site → Work D → PageRow D
    row_at b s w =
        placed (place_at ts s w)
        (work_row ts (unwrap_or (option_map (λ x. x.inner) b) no_context) s w)

    abbrev pub rest_term : PageRow D → Evaluation → Term (PageRow D)
    rest_term r e = frames.resting has_no_step (syntax ts).term r e.done e.todo

    abbrev pub moved_term : Context → Frame D → StmtMove → Term (PageRow D)
    moved_term c f m =
        rest_term (row_at (moved_contexts m c) f.site (moved_work m f.work)) f.operands

    -- what then stands in the place of the frame, which stands in this context; its operands are
    -- those that the step left
    abbrev pub move_term : Context → Frame D → StmtMove → Term (PageRow D)
    move_term c f move.Finished = Val Undefined
    move_term c f (move.Value v) = Val v
    move_term c f (move.Abrupt k) = Stop k
    move_term c f (move.Becomes (Some id)) =
        term_at (At (text_at f.site) 0) (tree_at (arena_of ts (text_at f.site)) id)
    move_term c f (move.Becomes None) = Val Undefined
    move_term c f m = moved_term c f m

    -- the term of a body of the function at this node, in this context; `new` made this object
    abbrev pub body_term : Site → Context → (made : Option Value) → Evaluation → Term (PageRow D)
    body_term s inner made e =
        rest_term (placed (At s.text (body_unit (arena_of ts s.text) s.node))
        (Statement (StmtRow.Body inner made))) e

  module _ (dispatched : D → List Value) (ts : Arenas) (w : World) where
    -- what a move names is there, and the frame that goes on may rest
    abbrev pub MayMove : Context → Frame D → StmtMove → Type 0
    MayMove c f move.Finished = Unit {0}
    MayMove c f (move.Value v) = IsThere w v
    MayMove c f (move.Abrupt k) = AreThere w (completion_names k [])
    MayMove c f (move.Becomes id) = Unit {0}
    MayMove c f m = (f' : Frame D) → IsMoved c m f f' → MayRest dispatched ts w c f'

    -- above the frames below the last one, which rests, then stands what the move makes of it
    abbrev pub Moves : Stack D → StmtMove → Stack D → Type 0
    Moves s m s' =
        (f : Frame D) → last s.frames.items ≡ Some f → s.focus ≡ focus.Resting
        → Stands dispatched ts w (front s.frames.items) s → MayMove s.context f m
        → Puts dispatched ts w s.base (front s.frames.items) (move_term ts s.context f m) s'
