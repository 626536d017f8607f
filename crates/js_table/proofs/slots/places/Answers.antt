use Rattle.std.proofs.Common.{sym, ap, ◌∙◌}
use Rattle.std.proofs.lemmas.List.{take_all}
use Rattle.std.specs.HashMap.{get}
use Rattle.js_value.specs.Same.{text_equal}
use Rattle.js_table.specs.inner.Slots.{place_of}
use Rattle.js_table.proofs.Places.{places-gap, places-put}
use Rattle.js_table.proofs.slots.places.Goals as goal
use Rattle.js_table.proofs.slots.places.Goals.{in-Some+in_ok-copy+in_ok-insert, in_default}

pub loop-i-preserved : goal.loop-i-preserved
loop-i-preserved c = elim c.match-slot.branch [
  | in-Some+in_ok-copy+in_ok-insert w ↦ λ x.
      places-put x c.args.slots.now c.loop-i.i w.in-Some.property (get text_equal c.loop-i.places x) (get text_equal c.match-slot.places x) c.requires c.loop-i-test.true (rw (← w.in-Some.is) c.index-slots-i.is) (c.loop-i.invariant x)
      (rw (w.places-is, ← w.in_ok-copy.ensures) (w.in_ok-insert.ensures.updates.0 x))
  | in_default w ↦ λ x. rw (w.places-is) (c.loop-i.invariant x ∙ sym (places-gap x c.args.slots.now c.loop-i.i c.loop-i-test.true (rw (← w.in_default.is) c.index-slots-i.is)))
]

pub returns : goal.returns
returns c = λ x. c.loop-i.invariant x ∙ ap (place_of x) (take_all _ _ c.loop-i-test.false)
