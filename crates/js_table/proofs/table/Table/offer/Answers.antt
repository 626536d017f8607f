use Rattle.std.proofs.Common.{ap, ◌∙◌}
use Rattle.js_table.specs.Properties.{with_property}
use Rattle.js_table.proofs.Places.{write-keeps, write-view}
use Rattle.js_table.proofs.table.Table.offer.Goals as goal

pub invariant_of-self : goal.invariant_of-self
invariant_of-self c = write-keeps c.args.name.now c.self.inside.slots.items c.in-Some.place c.args.value c.write.new.slots.items c.self.inside.index c.self.invariant.0 c.self.invariant.1 (rw c.deref.ensures.value at c.in-Some.ensures.stands) c.write.ensures

pub returns-clause-taken : goal.returns-clause-taken
returns-clause-taken c = λ listed.
    write-view c.args.name.now c.self.inside.slots.items c.in-Some.place c.args.value listed c.write.new.slots.items (rw c.deref.ensures.value at c.in-Some.ensures.place) (rw c.deref.ensures.value at c.in-Some.ensures.stands) c.write.ensures
    ∙ ap (with_property c.args.name.now c.args.value listed) c.self.view_is
