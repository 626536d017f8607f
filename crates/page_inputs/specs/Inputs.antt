-- The inputs of a page.
use Rattle.std.specs.Prelude.{◌<◌, ◌^◌, Bool, true, false}
use Rattle.mug_text.specs.declared.limits.TheConstants.{SAFE_END}
use Rattle.page_inputs.specs.declared.input.PageInput.{PageInput}
use Rattle.page_inputs.specs.declared.input.PageInput.TheVariants.{Load, Now, Rand}

-- the moment of a turn, a reading of the clock and a random word are in their ranges
abbrev pub IsInput : PageInput → Type 0
IsInput (Load t) = t < SAFE_END
IsInput (Now v) = v < SAFE_END
IsInput (Rand w) = w < 2 ^ 32

-- a turn, and not an answer within one
abbrev pub begins_turn : PageInput → Bool
begins_turn (Load t) = true
begins_turn (Now v) = false
begins_turn (Rand w) = false
