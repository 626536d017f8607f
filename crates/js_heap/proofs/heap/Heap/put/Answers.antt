use Rattle.js_heap.proofs.Closing.{kept-put}
use Rattle.js_heap.proofs.heap.Heap.put.Goals as goal

pub invariant_of-self : goal.invariant_of-self
invariant_of-self c = (
  kept-put c.put_property.result c.self.inside.objects.items c.put_property.new.objects.items c.self.inside.scopes.items c.args.self.now c.args.obj.number c.args.key.now c.args.value c.args.listed
      c.self.view_is c.self.invariant.0 c.requires.value c.put_property.ensures.ok c.put_property.ensures.err,
  c.self.invariant.1,
)
