use Rattle.std.proofs.Common.{ap, true}
use Rattle.js_heap.specs.Names.{bindings}
use Rattle.js_heap.proofs.Bindings.{with_binding-bindings}
use Rattle.js_table.proofs.Places.{on_ok_map}
use Rattle.js_heap.proofs.scope.Names.put.Goals as goal

pub returns-clause-ok : goal.returns-clause-ok
returns-clause-ok c = rw (← c.self.view_is, with_binding-bindings c.args.name.now c.args.value true) (on_ok_map c.put.result (λ e. ap bindings e) c.put.ensures.ok)
