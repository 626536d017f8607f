use Rattle.js_heap.proofs.Closing.{kept-assigned}
use Rattle.js_heap.proofs.heap.Heap.assign.Goals as goal

pub invariant_of-self : goal.invariant_of-self
invariant_of-self c = (
  kept-assigned c.self.inside.objects.items c.self.inside.scopes.items c.rename.new.scopes.items c.args.self.now c.in-Some.holder.number c.args.name.now c.args.value
      c.self.view_is c.self.invariant.0 c.requires.value c.rename.ensures,
  c.self.invariant.1,
)
