-- The places of the names in the slots before.
use Rattle.std.proofs.Common.{◌≡◌, ℕ, List, take}
use Rattle.std.specs.HashMap.{get}
use Rattle.js_value.specs.Same.{text_equal}
use Rattle.js_table.specs.inner.Slots.{place_of}
use Rattle.js_table.proofs.slots.places.Given as goal

abbrev pub invariant-loop-i : goal.invariant-loop-i
invariant-loop-i l = (x : List ℕ) → get text_equal l.places x ≡ place_of x (take l.i l.slots)
