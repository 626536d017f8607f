-- A failure has a cause: a count of faults that rose.
use Rattle.std.specs.Prelude.{◌⊎◌, ℕ, ◌+◌, ◌<◌, ◌≤◌, min, Result, IsErr}
use Rattle.mug_outside.specs.declared.count.TheConstants.{COUNT_END}

-- the count after one more; it stands still at its end
abbrev pub counted : ℕ → ℕ
counted n = min (n + 1) COUNT_END

-- the count grew in this call, or it stands at its end
abbrev pub Rose : ℕ → ℕ → Type 0
Rose before now = (before < now) ⊎ (COUNT_END ≤ now)

-- a count never falls, and a call fails only where it rose
pub record HasCause {T E : Type 0} (before now : ℕ) (result : Result T E) : Type 0 where
  pub later : before ≤ now
  pub rose : IsErr result → Rose before now
