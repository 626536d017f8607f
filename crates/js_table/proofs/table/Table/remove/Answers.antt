use Rattle.std.proofs.Common.{◌≡◌, None, sym, ap, ◌∙◌, rules}
use Rattle.js_table.specs.Properties.{property_named, without}
use Rattle.js_table.specs.inner.Slots.{present}
use Rattle.js_table.proofs.Places.{without-none, distinct-clear, present-clear}
use Rattle.js_table.proofs.table.Table.remove.Goals as goal

pub returns-in_default-clause-without : goal.returns-in_default-clause-without
returns-in_default-clause-without c =
    let none : property_named c.args.name.now c.args.self.now ≡ None = search rules in
    sym (without-none c.args.name.now c.args.self.now none)

pub close_many_gaps-requires-clause-distinct : goal.close_many_gaps-requires-clause-distinct
close_many_gaps-requires-clause-distinct c = rw c.clear.ensures.slots (distinct-clear c.self.inside.slots.items c.in-Some.place c.self.invariant.0)

pub returns-clause-without : goal.returns-clause-without
returns-clause-without c =
    c.close_many_gaps.ensures.present
    ∙ ap present c.clear.ensures.slots
    ∙ present-clear c.args.name.now c.self.inside.slots.items c.in-Some.place c.self.invariant.0 (sym (rw c.deref.ensures.value at c.in-Some.ensures.place))
    ∙ ap (without c.args.name.now) c.self.view_is
