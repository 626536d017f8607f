use Rattle.std.proofs.Common.{◌≡◌, None, cond, ap, ◌∙◌, rules}
use Rattle.std.specs.HashMap.{get}
use Rattle.js_value.specs.Same.{text_equal}
use Rattle.js_table.specs.Indices.{is_within}
use Rattle.js_table.specs.inner.Slots.{place_of}
use Rattle.js_table.proofs.ElementLemmas.{distinct-kept, known-kept, present-kept}
use Rattle.js_table.proofs.slots.take_elements.Goals as goal

pub returns-in_default-clause-present : goal.returns-in_default-clause-present
returns-in_default-clause-present c = rw c.keep_slots.ensures (present-kept c.args.low c.args.high c.args.slots.now.items)

pub returns-in_default-clause-distinct : goal.returns-in_default-clause-distinct
returns-in_default-clause-distinct c = rw c.keep_slots.ensures (distinct-kept c.args.low c.args.high c.args.slots.now.items c.requires.distinct)

pub renumber-requires-clause-distinct : goal.renumber-requires-clause-distinct
renumber-requires-clause-distinct c = rw (c.deref.ensures.value, c.keep_slots.ensures) (distinct-kept c.args.low c.args.high c.args.slots.now.items c.requires.distinct)

pub renumber-requires-clause-known : goal.renumber-requires-clause-known
renumber-requires-clause-known c = λ x.
    let place : get text_equal c.deref_mut.result.now.places x ≡ place_of x c.args.slots.now.items = search rules in
    rw (c.deref.ensures.value, c.keep_slots.ensures) (known-kept c.args.low c.args.high x c.args.slots.now.items (get text_equal c.keep_places.new.places x) (c.keep_places.ensures x ∙ ap (cond (is_within c.args.low c.args.high x) None) place))

pub returns-in-Some-clause-present : goal.returns-in-Some-clause-present
returns-in-Some-clause-present c = rw c.keep_slots.ensures (present-kept c.args.low c.args.high c.args.slots.now.items)

pub returns-in-Some-clause-distinct : goal.returns-in-Some-clause-distinct
returns-in-Some-clause-distinct c = rw c.keep_slots.ensures (distinct-kept c.args.low c.args.high c.args.slots.now.items c.requires.distinct)
