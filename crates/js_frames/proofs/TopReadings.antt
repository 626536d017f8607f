-- What stands at the top of a stack, read.
use Rattle.std.proofs.Common.{◌≡◌, List, [], ◌∷◌, ◌++◌, map, ap, ◌∙◌}
use Rattle.std.proofs.lemmas.List.{map-append}
use Rattle.js_term.specs.Evaluation.{focused}
use Rattle.js_term.specs.Frames as frames
use Rattle.js_term.specs.Moves as moves
use Rattle.js_term.specs.declared.operands.Operand.{Operand}
use Rattle.js_rows.specs.Hosted.{PageRow}
use Rattle.js_frames.specs.Arenas.{Arenas}
use Rattle.js_frames.specs.Reading.{last, reading, rests, waits}
use Rattle.js_frames.specs.Rows.{frame_row}
use Rattle.js_frames.specs.declared.frame.Focus.TheVariants as focus
use Rattle.js_frames.specs.declared.frame.Frame.{Frame}
use Rattle.js_frames.proofs.Tops.{front-push, last-push}

module _ (D : Type 0) (ts : Arenas) where
  abbrev pub stack : List (frames.Frame (PageRow D) Operand) → frames.Focus (PageRow D) Operand
      → moves.Stack (PageRow D) Operand
  stack ws t = record { frames = ws; focus = t }

  -- a stack whose last frame rests
  pub resting-reading : (fs : List (Frame D)) (f : Frame D) → reading ts focus.Resting
      (fs ++ f ∷ [])
      ≡ stack (map (waits ts) fs) (focused (frame_row ts f) f.operands)
  resting-reading fs f =
      ap (λ xs. stack (map (waits ts) xs) (rests ts (last (fs ++ f ∷ [])))) (front-push fs f)
      ∙ ap (λ o. stack (map (waits ts) fs) (rests ts o)) (last-push fs f)

  -- one more frame that waits
  pub pushed-reading : (fs : List (Frame D)) (f : Frame D)
      → map (waits ts) (fs ++ f ∷ []) ≡ map (waits ts) fs ++ waits ts f ∷ []
  pushed-reading fs f = map-append (waits ts) fs (f ∷ [])
