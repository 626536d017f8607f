-- What a node of a text begins as: its value, where it is a literal or no node, or a frame of which
-- no operand has begun.
use Rattle.std.specs.Prelude.{List, [], ◌∷◌, Option, Some, None}
use Rattle.js_tree.specs.declared.node.NodeId.{NodeId}
use Rattle.js_term.specs.ArenaOperands.{begun_as}
use Rattle.js_term.specs.Evaluation.{Evaluation}
use Rattle.js_term.specs.declared.begun.Begun.{Begun}
use Rattle.js_term.specs.declared.begun.Begun.TheVariants as begun
use Rattle.js_operands.specs.ArenaRows.{row_in}
use Rattle.js_operands.specs.Rows.{ExprRow}
use Rattle.js_operands.specs.declared.row.Phase.TheVariants as phase
use Rattle.js_stmt.specs.declared.kept.StmtKept.TheVariants as kept
use Rattle.js_stmt.specs.declared.phase.StmtPhase.TheVariants as stmt_phase
use Rattle.js_frames.specs.Arenas.{Arenas, arena_of}
use Rattle.js_frames.specs.declared.frame.Focus.{Focus}
use Rattle.js_frames.specs.declared.frame.Focus.TheVariants as focus
use Rattle.js_frames.specs.declared.frame.Frame.{Frame}
use Rattle.js_frames.specs.declared.frame.Site.{Site}
use Rattle.js_frames.specs.declared.frame.StmtState.{StmtState}
use Rattle.js_frames.specs.declared.frame.Work.{Work}
use Rattle.js_frames.specs.declared.frame.Work.TheVariants as work

abbrev pub begun_state : NodeId → StmtState
begun_state outermost = record { phase = stmt_phase.Begun; outermost = outermost }

-- what has no row of an expression is a statement
abbrev pub begun_work : {D : Type 0} → NodeId → Option ExprRow → Work D
begun_work outermost (Some r) = work.Expression phase.Begun
begun_work outermost None = work.Statement (begun_state outermost) kept.Nothing

module _ {D : Type 0} (ts : Arenas) (s : Site) (outermost : NodeId) where
  abbrev pub begun_frame : Evaluation → Frame D
  begun_frame e = record {
    site = Some s;
    work = begun_work outermost (row_in (arena_of ts s.text) s.node phase.Begun);
    operands = e;
    contexts = None;
  }

  abbrev pub frames_by : Begun → List (Frame D)
  frames_by (begun.Value v) = []
  frames_by (begun.Operands e) = begun_frame e ∷ []

  -- the frame of a node that begins, where it has one
  abbrev pub begun_frames : List (Frame D)
  begun_frames = frames_by (begun_as (arena_of ts s.text) s.node)

abbrev pub focus_by : Begun → Focus
focus_by (begun.Value v) = focus.Value v
focus_by (begun.Operands e) = focus.Resting

-- what stands at the top as it begins
abbrev pub begun_focus : Arenas → Site → Focus
begun_focus ts s = focus_by (begun_as (arena_of ts s.text) s.node)
