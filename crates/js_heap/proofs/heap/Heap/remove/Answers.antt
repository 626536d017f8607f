use Rattle.std.proofs.Common.{ap, ◌∙◌}
use Rattle.js_heap.specs.Objects.{changed_at, object_without}
use Rattle.js_heap.proofs.Closing.{kept-removed}
use Rattle.js_heap.proofs.heap.Heap.remove.Goals as goal

pub invariant_of-self : goal.invariant_of-self
invariant_of-self c = (
  kept-removed c.self.inside.objects.items c.remove_property.new.objects.items c.self.inside.scopes.items c.args.obj.number c.args.key.now c.self.invariant.0
      (c.remove_property.ensures.without ∙ ap (λ x. changed_at c.self.inside.objects.items c.args.obj.number (object_without x)) c.as_slice.ensures),
  c.self.invariant.1,
)
