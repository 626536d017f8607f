-- How many more objects and scopes there may be. A step whose new ones don't all fit makes none of
-- them.
use Rattle.std.specs.Prelude.{ℕ, ◌+◌, Bool, length, nat_le}
use Rattle.js_heap.specs.World.{World}
use Rattle.js_heap.specs.declared.fault.TheConstants.{COUNT_LIMIT}

-- so many more fit behind these
abbrev pub fit : (count more : ℕ) → Bool
fit count more = nat_le (count + more) COUNT_LIMIT

-- so many more objects fit
abbrev pub objects_fit : World → ℕ → Bool
objects_fit w n = fit (length w.objects) n

-- so many more scopes fit
abbrev pub scopes_fit : World → ℕ → Bool
scopes_fit w n = fit (length w.scopes) n
