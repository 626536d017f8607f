-- The rows of frames.
use Rattle.std.specs.Prelude.{ℕ, Option, Some, None, unwrap_or}
use Rattle.std.specs.Option.{option_map}
use Rattle.js_value.specs.declared.value.Value.TheVariants.{Undefined}
use Rattle.js_tree.specs.Arena.{Arena, empty, span_at}
use Rattle.js_term.specs.Place.{Place}
use Rattle.js_term.specs.Place.Place.{At, Host}
use Rattle.js_term.specs.declared.context.Context.{Context}
use Rattle.js_operands.specs.ArenaRows.{row_in}
use Rattle.js_operands.specs.ExprMoves.{left_methods}
use Rattle.js_operands.specs.Rows.{ExprRow}
use Rattle.js_operands.specs.declared.row.Phase.{Phase}
use Rattle.js_operands.specs.declared.row.Phase.TheVariants as phase
use Rattle.js_stmt.specs.Lent.{IsLent}
use Rattle.js_stmt.specs.NodeRows as nodes
use Rattle.js_stmt.specs.Rows.{StmtRow}
use Rattle.js_stmt.specs.declared.kept.StmtKept.{StmtKept}
use Rattle.js_stmt.specs.declared.phase.StmtPhase.{StmtPhase}
use Rattle.js_stmt.specs.declared.phase.StmtPhase.TheVariants as stmt_phase
use Rattle.js_stmt.specs.declared.row.StmtRow.{StmtRow as CodeRow}
use Rattle.js_calls.specs.Texts.{body_unit}
use Rattle.js_rows.specs.Forms.{Form}
use Rattle.js_rows.specs.Forms.Form.{Begin, Dispatch, Fresh, Native}
use Rattle.js_rows.specs.Hosted.{PageRow}
use Rattle.js_rows.specs.Row.{Row, placed}
use Rattle.js_frames.specs.Arenas.{Arenas, arena_of}
use Rattle.js_frames.specs.declared.frame.Frame.{Frame}
use Rattle.js_frames.specs.declared.frame.Site.{Site}
use Rattle.js_frames.specs.declared.frame.StmtState.{StmtState}
use Rattle.js_frames.specs.declared.frame.Work.{Work}
use Rattle.js_frames.specs.declared.frame.Work.TheVariants as work

-- the row of an expression of the host
abbrev pub host_row : Phase → ExprRow
host_row (phase.Convert k) = ExprRow.Convert k
host_row (phase.Converting m) = ExprRow.Converting (left_methods m)
host_row f = ExprRow.CallOn

-- the context of an operand that has none of its own to name; no row holds it
abbrev pub no_context : Context
no_context = record { text = 0; scope = None; this = Undefined }

abbrev first_unit : Option (ℕ × ℕ) → ℕ
first_unit (Some s) = s.0
first_unit None = 0

module _ (ts : Arenas) where
  abbrev pub site_arena : Option Site → Arena
  site_arena (Some s) = arena_of ts s.text
  site_arena None = empty

  -- the first unit of a node
  abbrev pub unit_at : Option Site → ℕ
  unit_at (Some s) = first_unit (span_at (arena_of ts s.text) s.node)
  unit_at None = 0

  -- a body stands where its function does, by the unit that names it; any other node at its first
  abbrev pub statement_unit : Site → StmtPhase → ℕ
  statement_unit s stmt_phase.Body = body_unit (arena_of ts s.text) s.node
  statement_unit s p = unit_at (Some s)

  abbrev pub work_unit : {D : Type 0} → Site → Work D → ℕ
  work_unit s (work.Statement state k) = statement_unit s state.phase
  work_unit s w = unit_at (Some s)

  abbrev pub place_at : {D : Type 0} → Option Site → Work D → Place
  place_at (Some s) w = At s.text (work_unit s w)
  place_at None w = Host

  -- what is no expression of a text is the host's
  abbrev pub expression_at : Option Site → Phase → ExprRow
  expression_at (Some s) f = unwrap_or (row_in (arena_of ts s.text) s.node f) (host_row f)
  expression_at None f = host_row f

  -- a body's statements run in this context
  abbrev pub statement_at : Context → Option Site → StmtState → StmtKept → StmtRow
  statement_at c (Some s) state k =
      nodes.row_in (arena_of ts s.text) c s.node state.outermost state.phase k
  statement_at c None state k = StmtRow.Free

  -- what a statement's row in code lends is its node's
  abbrev pub IsLentAt : Option Site → StmtState → StmtKept → CodeRow → Type 0
  IsLentAt (Some s) state k r = IsLent (arena_of ts s.text) s.node state.outermost k r
  IsLentAt None state k r = Unit {0}

  abbrev pub work_row : {D : Type 0} → Context → Option Site → Work D → Row (Form D)
  work_row c s (work.Expression f) = Row.Expression (expression_at s f)
  work_row c s (work.Statement state k) = Row.Statement (statement_at c s state k)
  work_row c s (work.Native q) = Row.Form (Native q.value)
  work_row c s (work.Begin d) = Row.Form (Begin d)
  work_row c s (work.Fresh e) =
      Row.Form (Fresh e.value.target e.value.kind e.value.bubbles e.value.cancelable)
  work_row c s (work.Dispatch d) = Row.Form (Dispatch d)

  -- a body's row names its frame's own context
  abbrev pub frame_row : {D : Type 0} → Frame D → PageRow D
  frame_row f =
      placed (place_at f.site f.work)
      (work_row (unwrap_or (option_map (λ b. b.value.inner) f.contexts) no_context) f.site f.work)
