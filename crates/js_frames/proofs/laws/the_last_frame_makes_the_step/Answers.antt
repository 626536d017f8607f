use Rattle.js_frames.proofs.DueSteps.{early, makes, meets}
use Rattle.js_frames.proofs.laws.the_last_frame_makes_the_step.Goals as goal

pub returns : goal.returns
returns g c = record {
  makes = λ O ts s f w h sound at is e steps. makes _ _ O ts s f w h sound is at e steps;
  early = λ O ts s f w h x todo sound at is e steps soon. early _ _ O ts s f w h sound is at x todo
      e steps soon;
  meets = λ O ts s f w h k sound at is. meets _ _ O ts s f w h sound is k at;
}
