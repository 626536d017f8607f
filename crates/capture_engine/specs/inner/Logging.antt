-- A recording that is given the inputs of a page one after another, and told of the end of each
-- turn.
use Rattle.std.specs.Prelude.{◌≡◌, false, List, ◌++◌, drop, map, All}
use Rattle.page_inputs.specs.Inputs.{begins_turn}
use Rattle.page_inputs.specs.Turns.{turns as page_turns}
use Rattle.page_inputs.specs.declared.input.PageInput.{PageInput}
use Rattle.input_log.specs.Inputs.{logged}
use Rattle.input_log.specs.declared.item.LogItem.{LogItem}
use Rattle.capture_engine.specs.Outside.{Shown}
use Rattle.capture_engine.specs.Recording.{Recorded, RecorderState}

-- of all inputs these are left; the others were logged: the turns that are over, and of the turn
-- that runs these
pub record Logging (start now : Shown) (head : LogItem) (all left : List PageInput)
    (r : RecorderState) : Type 0 where
  pub over : List (List LogItem)
  pub turn : List PageInput
  pub so_far : Recorded start now head over (logged turn) r
  pub answers : All (λ i. begins_turn i ≡ false) (drop 1 turn)
  pub is : map logged (page_turns all) ≡ over ++ map logged (page_turns (turn ++ left))
