use Rattle.js_heap.proofs.Closing.{kept-declared}
use Rattle.js_heap.proofs.heap.Heap.declare.Goals as goal

pub invariant_of-self : goal.invariant_of-self
invariant_of-self c = (
  kept-declared c.name_scope.result c.self.inside.objects.items c.self.inside.scopes.items c.name_scope.new.scopes.items c.args.self.now c.args.scope.number c.args.name.now c.args.value
      c.self.view_is c.self.invariant.0 c.requires.value c.name_scope.ensures.ok c.name_scope.ensures.err,
  c.self.invariant.1,
)
