-- The bytes that a disk holds, from one call to the next.
use Rattle.std.specs.Prelude.{◌≡◌, ℕ, ◌+◌, ◌≤◌, max, List, ◌++◌, length, take, drop, Option, Some, None}

-- these bytes from this place on, grown where they pass the old end
abbrev pub over : ℕ → List ℕ → List ℕ → List ℕ
over at bytes old = take at old ++ (bytes ++ drop (at + length bytes) old)

-- after a write of n bytes that failed: the same outside its range; within it, and past the old end
-- up to its end, any bytes
pub record Torn (at n : ℕ) (old new : List ℕ) : Type 0 where
  pub before : take at new ≡ take at old
  pub after : drop (at + n) new ≡ drop (at + n) old
  pub no_shorter : length old ≤ length new
  pub no_longer : length new ≤ max (length old) (at + n)

-- both are told and related, or neither is told
abbrev pub Lifted : {A : Type 0} → (A → A → Type 0) → Option A → Option A → Type 0
Lifted R None None = Unit {0}
Lifted R None (Some b) = ⊥
Lifted R (Some a) None = ⊥
Lifted R (Some a) (Some b) = R a b
