-- What the writes of a commit leave where one of its calls fails.
use Rattle.std.specs.Prelude.{◌≡◌, ◌⊎◌, ℕ, ◌+◌, ◌-◌, List, length, take, drop}
use Rattle.mug_disk.specs.Held.{over}

-- the same bytes but for the one at this place
pub record SameBut (at : ℕ) (old new : List ℕ) : Type 0 where
  pub before : take at new ≡ take at old
  pub after : drop (at + 1) new ≡ drop (at + 1) old
  pub size : length new ≡ length old

-- all before the place as it was, or the frame written and any byte as its gate
abbrev pub Leaves : ℕ → List ℕ → List ℕ → List ℕ → Type 0
Leaves place frame old new =
    (take place new ≡ take place old) ⊎ SameBut (place - 1) (over place frame old) new
