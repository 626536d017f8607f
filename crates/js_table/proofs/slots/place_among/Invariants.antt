-- No slot before has the name.
use Rattle.std.proofs.Common.{◌≡◌, None, take}
use Rattle.js_table.specs.inner.Slots.{place_of}
use Rattle.js_table.proofs.slots.place_among.Given as goal

abbrev pub invariant-loop-i : goal.invariant-loop-i
invariant-loop-i l = place_of l.name (take l.i l.slots) ≡ None
