-- What stands at the top of a stack, above frames that wait.
use Rattle.std.specs.Prelude.{◌≡◌, false, List, map}
use Rattle.js_value.specs.declared.value.Value.{Value}
use Rattle.js_heap.specs.Closed.{Each}
use Rattle.js_heap.specs.World.{World}
use Rattle.js_term.specs.Frames as frames
use Rattle.js_term.specs.Term.{Term}
use Rattle.js_term.specs.declared.context.Context.{Context}
use Rattle.js_rows.specs.Hosted.{PageRow}
use Rattle.js_rows.specs.Syntax.{has_no_step}
use Rattle.js_frames.specs.Arenas.{Arenas}
use Rattle.js_frames.specs.Names.{ContextIsThere, FrameIsThere, StackIsThere}
use Rattle.js_frames.specs.Reading.{syntax, term, waits}
use Rattle.js_frames.specs.Rows.{frame_row}
use Rattle.js_frames.specs.Soundness.{AreWaiting, Awaits, IsPlaced, IsResting, IsSound}
use Rattle.js_frames.specs.Soundness.{moved_rows}
use Rattle.js_frames.specs.declared.frame.Frame.{Frame}
use Rattle.js_frames.specs.declared.stack.Stack.{Stack}

module _ {D : Type 0} where
  -- the term of one that stands above these frames
  abbrev pub above : Arenas → List (Frame D) → Term (PageRow D) → Term (PageRow D)
  above ts fs t = frames.reading has_no_step (syntax ts).term (map (waits ts) fs) t

  -- the term of a frame that rests
  abbrev pub frame_term : Arenas → Frame D → Term (PageRow D)
  frame_term ts f =
      frames.resting has_no_step (syntax ts).term (frame_row ts f) f.operands.done f.operands.todo

  module _ (dispatched : D → List Value) (ts : Arenas) (w : World) where
    -- These frames wait below the top of a stack, and what they name is there.
    pub record Stands (fs : List (Frame D)) (s : Stack D) : Type 0 where
      pub waiting : AreWaiting ts s.base s.context fs
      pub frames : Each (FrameIsThere dispatched w) fs
      pub context : ContextIsThere w s.context
      pub base : ContextIsThere w s.base

    -- A stack over this base stands for this term above these frames, and what it names is there.
    pub record Puts (below : Context) (fs : List (Frame D)) (t : Term (PageRow D)) (s : Stack D)
        : Type 0 where
      pub sound : IsSound ts s
      pub same : term ts s ≡ above ts fs t
      pub base : s.base ≡ below
      pub there : StackIsThere dispatched w s

    -- A frame may rest in this context, or wait there for its next operand.
    pub record MayRest (c : Context) (f : Frame D) : Type 0 where
      pub placed : IsPlaced ts f
      pub rests : IsResting ts c f
      pub there : FrameIsThere dispatched w f

    pub record MayWait (c : Context) (f : Frame D) : Type 0 where
      pub rests : MayRest c f
      pub awaits : Awaits f
      pub early : moved_rows.is_early (frame_row ts f) f.operands.done ≡ false
