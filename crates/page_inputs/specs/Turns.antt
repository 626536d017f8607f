-- The turns of a page.
use Rattle.std.specs.Prelude.{Bool, true, List, [], ◌∷◌, if◌then◌else◌}
use Rattle.page_inputs.specs.Inputs.{begins_turn}
use Rattle.page_inputs.specs.declared.input.PageInput.{PageInput}

-- no input of a turn stands in front of these
abbrev pub turn_is_over : List PageInput → Bool
turn_is_over [] = true
turn_is_over (input ∷ inputs) = begins_turn input

-- an input more, in front of the first turn
abbrev pub in_first_turn : PageInput → List (List PageInput) → List (List PageInput)
in_first_turn input [] = (input ∷ []) ∷ []
in_first_turn input (turn ∷ turns) = (input ∷ turn) ∷ turns

-- the inputs turn by turn: an input is the last of its turn where the turn is over after it, and
-- else stands in the turn of the next
abbrev pub turns : List PageInput → List (List PageInput)
turns [] = []
turns (input ∷ inputs) =
    if turn_is_over inputs
    then (input ∷ []) ∷ turns inputs
    else in_first_turn input (turns inputs)
