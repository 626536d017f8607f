-- A stream of the system, as callers see it: it tells no content.
use Rattle.std.specs.Prelude.{ℕ, Bool}

-- whether there is a stream behind it, and how often it has failed
pub record StdState : Type 0 where
  pub is_open : Bool
  pub faults : ℕ
