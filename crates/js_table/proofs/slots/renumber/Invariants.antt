-- The new places of the names in the slots before, and the old ones of the others.
use Rattle.std.proofs.Common.{◌≡◌, ℕ, List, take}
use Rattle.std.specs.HashMap.{get}
use Rattle.js_value.specs.Same.{text_equal}
use Rattle.js_table.specs.inner.Slots.{place_of, or_old}
use Rattle.js_table.proofs.slots.renumber.Given as goal

abbrev pub invariant-loop-i : goal.invariant-loop-i
invariant-loop-i l = (x : List ℕ) → get text_equal l.places x ≡ or_old (place_of x (take l.i l.slots)) (get text_equal l.initial.places x)
