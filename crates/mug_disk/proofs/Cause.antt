-- A failure has its cause where the count rose.
use Rattle.std.proofs.Common.{ℕ, ◌≤◌, Result}
use Rattle.mug_outside.specs.Cause.{HasCause, Rose}

pub caused : {T E : Type 0} (before now : ℕ) (result : Result T E) → before ≤ now → Rose before now → HasCause before now result
caused before now result later rose = record { later = later; rose = λ _. rose }
