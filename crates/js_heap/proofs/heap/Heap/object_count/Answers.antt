use Rattle.js_heap.proofs.Closing.{closed_seen}
use Rattle.js_heap.proofs.heap.Heap.object_count.Goals as goal

pub returns-clause-closed : goal.returns-clause-closed
returns-clause-closed c = closed_seen c.self.inside.objects.items c.self.inside.scopes.items c.args.self.now c.self.view_is c.self.invariant.0
