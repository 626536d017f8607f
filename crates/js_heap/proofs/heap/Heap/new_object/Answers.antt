use Rattle.js_heap.proofs.Closing.{kept-made}
use Rattle.js_heap.proofs.heap.Heap.new_object.Goals as goal

pub invariant_of-self-2 : goal.invariant_of-self-2
invariant_of-self-2 c = (
  kept-made c.self.inside.objects.items c.push_object.new.objects.items c.self.inside.scopes.items c.args.self.now c.args.class c.args.prototype c.in_ok-properties.properties
      c.self.view_is c.self.invariant.0 c.requires.class c.requires.prototype c.in_ok-properties.ensures c.in_ok-push_object.ensures.ok,
  c.self.invariant.1,
)
