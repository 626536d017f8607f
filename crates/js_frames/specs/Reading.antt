-- What a stack of frames stands for: a stack of rows, and a term.
use Rattle.std.specs.Prelude.{◌-◌, List, Option, Some, None, length, map, slice_get, take}
use Rattle.js_value.specs.declared.value.Value.TheVariants.{Undefined}
use Rattle.js_term.specs.ArenaSyntax.{arena_syntax}
use Rattle.js_term.specs.Evaluation.{focused, waiting}
use Rattle.js_term.specs.Frames as frames
use Rattle.js_term.specs.Frames.Focus.{Alone}
use Rattle.js_term.specs.Moves as moves
use Rattle.js_term.specs.Moves.{Syntax, stack_term}
use Rattle.js_term.specs.Term.{Term}
use Rattle.js_term.specs.Term.Term.{Stop, Val}
use Rattle.js_term.specs.declared.operands.Operand.{Operand}
use Rattle.js_rows.specs.Hosted.{PageRow}
use Rattle.js_rows.specs.Row.{text_of}
use Rattle.js_rows.specs.Syntax.{has_no_step, labels_of, row_of}
use Rattle.js_frames.specs.Arenas.{Arenas, arena_of}
use Rattle.js_frames.specs.Rows.{frame_row}
use Rattle.js_frames.specs.declared.frame.Focus.{Focus}
use Rattle.js_frames.specs.declared.frame.Focus.TheVariants as focus
use Rattle.js_frames.specs.declared.frame.Frame.{Frame}
use Rattle.js_frames.specs.declared.stack.Stack.{Stack}

-- the last of a list
abbrev pub last : {X : Type 0} → List X → Option X
last xs = slice_get xs (length xs - 1)

-- the frames that wait: all of them, or all below the last one, where that rests
abbrev pub below : {X : Type 0} → Focus → List X → List X
below focus.Resting fs = take (length fs - 1) fs
below t fs = fs

module _ {D : Type 0} (ts : Arenas) where
  -- a frame that waits for the first of its operands to come
  abbrev pub waits : Frame D → frames.Frame (PageRow D) Operand
  waits f = waiting (frame_row ts f) f.operands

  -- a frame that rests at the top
  abbrev pub rests : Option (Frame D) → frames.Focus (PageRow D) Operand
  rests (Some f) = focused (frame_row ts f) f.operands
  rests None = Alone (Val Undefined)

  abbrev pub focus_of : Focus → Option (Frame D) → frames.Focus (PageRow D) Operand
  focus_of (focus.Value v) f = Alone (Val v)
  focus_of (focus.Abrupt k) f = Alone (Stop k)
  focus_of focus.Resting f = rests f

  abbrev pub reading : Focus → List (Frame D) → moves.Stack (PageRow D) Operand
  reading t fs = record { frames = map waits (below t fs); focus = focus_of t (last fs) }

  abbrev pub stack_of : Stack D → moves.Stack (PageRow D) Operand
  stack_of s = reading s.focus s.frames.items

-- the nodes of the texts, and values, as operands to come
abbrev pub syntax : {D : Type 0} → Arenas → Syntax (PageRow D) Operand
syntax ts = arena_syntax has_no_step row_of (λ r. text_of r.place) labels_of (arena_of ts)

abbrev pub term : {D : Type 0} → Arenas → Stack D → Term (PageRow D)
term ts s = stack_term (syntax ts) has_no_step (stack_of ts s)
