-- How far what arrivals hold can go.
use Rattle.std.specs.Prelude.{ℕ, ◌<◌, ◌≤◌, List, length, All}
use Rattle.mug_text.specs.Text.{IsText}
use Rattle.mug_text.specs.declared.limits.TheConstants.{SAFE_END}
use Rattle.arrival_file.specs.declared.limits.TheConstants.{FILE_LIMIT, WORD_END}
use Rattle.arrival_file.specs.declared.arrival.Arrival.{Arrival}
use Rattle.arrival_file.specs.declared.arrival.Arrivals.{Arrivals}
use Rattle.arrival_file.specs.declared.arrival.Turn.{Turn}
use Rattle.arrival_file.specs.declared.arrival.Turn.TheVariants as turn

-- the moment of a turn is below 2^53
abbrev pub IsTimely : Turn → Type 0
IsTimely (turn.Load t) = t < SAFE_END

-- so are the readings of the clock, and the random words are below 2^32
pub record IsInRange (arrival : Arrival) : Type 0 where
  pub moment : IsTimely arrival.turn
  pub nows : All (λ v. v < SAFE_END) arrival.nows
  pub rands : All (λ w. w < WORD_END) arrival.rands

-- the units are a text of so many bytes at most in UTF-8
pub record IsShortText (most : ℕ) (units : List ℕ) : Type 0 where
  pub bytes : List ℕ
  pub text : IsText bytes units
  pub short : length bytes ≤ most

-- the base is a text of at most 64 MiB, there is one turn at most, and it is in its range
pub record InRanges (arrivals : Arrivals) : Type 0 where
  pub base : IsShortText FILE_LIMIT arrivals.base
  pub few : length arrivals.turns ≤ 1
  pub turns : All IsInRange arrivals.turns
