-- Which calls of an object in memory are to fail.
use Rattle.std.specs.Prelude.{ℕ, List, Contains}
use Rattle.mug_outside.specs.Cause.{counted}

-- the numbers of the calls that are to fail, counted from 1, and the number of calls so far
pub record Schedule : Type 0 where
  pub listed : List ℕ
  pub calls : ℕ

-- after one more call
abbrev pub next : Schedule → Schedule
next s = record { listed = s.listed; calls = counted s.calls }

-- the next call is one that is to fail
abbrev pub IsDue : Schedule → Type 0
IsDue s = Contains s.listed (counted s.calls)
