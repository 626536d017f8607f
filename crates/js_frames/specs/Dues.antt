-- What a stack does next, where it has no free move.
use Rattle.std.specs.Prelude.{◌≡◌, ◌<◌, true, false, ◌⊎◌, List, [], Option, Some}
use Rattle.std.specs.Prelude.{length, map}
use Rattle.js_term.specs.Contraction.{Contraction}
use Rattle.js_term.specs.Frames.{carried, reading}
use Rattle.js_rows.specs.Hosted.{PageRow}
use Rattle.js_rows.specs.Syntax.{has_no_step}
use Rattle.js_frames.specs.Arenas.{Arenas}
use Rattle.js_frames.specs.Reading.{last, syntax, waits}
use Rattle.js_frames.specs.Rows.{frame_row}
use Rattle.js_frames.specs.Soundness.{moved_rows}
use Rattle.js_frames.specs.declared.due.Due.{Due}
use Rattle.js_frames.specs.declared.due.Due.TheVariants as due
use Rattle.js_frames.specs.declared.frame.Focus.{Focus}
use Rattle.js_frames.specs.declared.frame.Focus.TheVariants as focus
use Rattle.js_frames.specs.declared.frame.Frame.{Frame}
use Rattle.js_frames.specs.declared.frame.Work.{Work}
use Rattle.js_frames.specs.declared.frame.Work.TheVariants as work
use Rattle.js_frames.specs.declared.stack.Stack.{Stack}

module _ {D : Type 0} where
  abbrev pub due_of : Work D → Due
  due_of (work.Expression f) = due.Expression f
  due_of (work.Statement state k) = due.Statement state
  due_of (work.Native q) = due.Native
  due_of (work.Begin d) = due.Begin d
  due_of (work.Fresh e) = due.Fresh
  due_of (work.Dispatch d) = due.Dispatch

  -- the row makes its step, of operands that are values or before the next of them is evaluated
  pub record MakesStep (ts : Arenas) (f : Frame D) (d : Due) : Type 0 where
    pub work : due_of f.work ≡ d
    pub steps : has_no_step (frame_row ts f) ≡ false
    pub operands : (f.operands.todo ≡ [])
        ⊎ (moved_rows.is_early (frame_row ts f) f.operands.done ≡ true)

  abbrev pub DueOf : Arenas → Focus → List (Frame D) → Option (Frame D) → Due → Type 0
  DueOf ts (focus.Value v) fs f due.Ends = fs ≡ []
  DueOf ts (focus.Abrupt k) fs f due.Ends = fs ≡ []
  DueOf ts (focus.Abrupt k) fs f due.Meets = 0 < length fs
  DueOf ts focus.Resting fs (Some f) d = MakesStep ts f d
  DueOf ts t fs f d = ⊥

  -- Ends: nothing, at a value or a completion alone. Meets: the last frame meets a completion. Any
  -- other: the last frame, which rests, makes its row's step.
  abbrev pub IsDue : Arenas → Stack D → Due → Type 0
  IsDue ts s d = DueOf ts s.focus s.frames.items (last s.frames.items) d

-- what the top of a stack comes to, in the term of the whole stack, where these frames wait below
abbrev pub above : {D H : Type 0} → Arenas → List (Frame D) → Contraction (PageRow D) H
    → Contraction (PageRow D) H
above ts fs o = carried (reading has_no_step (syntax ts).term (map (waits ts) fs)) o
