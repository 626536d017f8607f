use Rattle.std.proofs.Common.{◌≡◌, is_some, sym, ap, ◌∙◌, rules}
use Rattle.std.specs.HashMap.{get}
use Rattle.js_value.specs.Same.{text_equal}
use Rattle.js_table.specs.inner.Slots.{place_of}
use Rattle.js_table.proofs.Places.{present-filter, distinct-filter, is_some-filter}
use Rattle.js_table.proofs.slots.close_many_gaps.Goals as goal

pub returns-in_default-clause-present : goal.returns-in_default-clause-present
returns-in_default-clause-present c = rw c.close_gaps.ensures (present-filter c.args.slots.now.items)

pub returns-in_default-clause-distinct : goal.returns-in_default-clause-distinct
returns-in_default-clause-distinct c = rw c.close_gaps.ensures (distinct-filter c.args.slots.now.items c.requires.distinct)

pub renumber-requires-clause-distinct : goal.renumber-requires-clause-distinct
renumber-requires-clause-distinct c = rw (c.deref-then-deref-len.ensures.value, c.close_gaps-then-deref-len.ensures) (distinct-filter c.args.slots.now.items c.requires.distinct)

pub renumber-requires-clause-known : goal.renumber-requires-clause-known
renumber-requires-clause-known c = λ x.
    let place : get text_equal c.deref_mut.result.now.places x ≡ place_of x c.args.slots.now.items = search rules in
    rw (c.deref-then-deref-len.ensures.value, c.close_gaps-then-deref-len.ensures) (ap is_some place ∙ sym (is_some-filter x c.args.slots.now.items))

pub returns-then-deref-len-clause-present : goal.returns-then-deref-len-clause-present
returns-then-deref-len-clause-present c = rw c.close_gaps-then-deref-len.ensures (present-filter c.args.slots.now.items)

pub returns-then-deref-len-clause-distinct : goal.returns-then-deref-len-clause-distinct
returns-then-deref-len-clause-distinct c = rw c.close_gaps-then-deref-len.ensures (distinct-filter c.args.slots.now.items c.requires.distinct)
