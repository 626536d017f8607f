-- The properties from this slot on lead to the same names.
use Rattle.std.proofs.Common.{List, ◌++◌, drop}
use Rattle.js_table.specs.declared.property.Property.{Property}
use Rattle.js_table.specs.inner.Listing.{ListsMore}
use Rattle.js_table.specs.inner.Slots.{present}
use Rattle.js_table.proofs.listing.list_slots.Given as goal

abbrev pub invariant-loop-slot : goal.invariant-loop-slot
invariant-loop-slot l = (rest : List Property) → ListsMore l.initial.seen.keys l.initial.names (present l.slots ++ rest) l.seen.keys l.names (present (drop l.slot-index l.slots) ++ rest)
