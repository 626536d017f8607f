use Rattle.std.proofs.Common.{sym, ap, ◌∙◌}
use Rattle.std.specs.HashMap.{get}
use Rattle.js_value.specs.Same.{text_equal}
use Rattle.js_table.proofs.Places.{some_read, places-gap, places-renumbered, never_unknown}
use Rattle.js_table.specs.inner.Slots.{or_old}
use Rattle.js_table.proofs.slots.renumber.Goals as goal
use Rattle.js_table.proofs.slots.renumber.Goals.{in-Some+in-Some-get_mut, in-Some+in_default-get_mut, in_default}

pub loop-i-preserved : goal.loop-i-preserved
loop-i-preserved c = elim c.match-slot.branch [
  | in-Some+in-Some-get_mut w ↦ λ x.
      places-renumbered x c.args.slots.now c.loop-i.i w.in-Some.property (get text_equal c.args.places.now x) (get text_equal c.loop-i.places x) (get text_equal c.match-slot.places x) c.requires.distinct c.loop-i-test.true (rw (← w.in-Some.is) c.index-slots-i.is) (c.loop-i.invariant x)
      (rw (w.places-is) (((w.get_mut.follows.holds c.loop-i.i).3 (some_read _ _ w.in-Some-get_mut.ensures.value)).0 x))
  | in-Some+in_default-get_mut w ↦ λ x.
      absurd (never_unknown c.args.slots.now c.loop-i.i w.in-Some.property (get text_equal c.args.places.now w.in-Some.property.name) (get text_equal c.loop-i.places w.in-Some.property.name) c.loop-i-test.true (rw (← w.in-Some.is) c.index-slots-i.is) (c.requires.known w.in-Some.property.name)
      (c.loop-i.invariant w.in-Some.property.name) (sym w.in_default-get_mut.ensures.value))
  | in_default w ↦ λ x. rw (w.places-is) (c.loop-i.invariant x ∙ ap (λ q. or_old q (get text_equal c.args.places.now x)) (sym (places-gap x c.args.slots.now c.loop-i.i c.loop-i-test.true (rw (← w.in_default.is) c.index-slots-i.is))))
]
