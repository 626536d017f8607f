use Rattle.js_term.proofs.Values.{taken_kept, taken_view}
use Rattle.js_term.proofs.operands.Operands.take.Goals as goal

pub invariant_of-self : goal.invariant_of-self
invariant_of-self c =
    taken_kept c.self.inside.count c.self.inside.all.items c.put_value.new.all.items c.args.value c.args.self.now c.self.view_is c.requires c.self.invariant.1
    c.put_value.ensures

pub returns : goal.returns
returns c =
    taken_view c.self.inside.count c.self.inside.all.items c.put_value.new.all.items c.args.value c.args.self.now c.self.view_is c.requires c.put_value.ensures
