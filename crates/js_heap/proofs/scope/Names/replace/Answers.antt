use Rattle.std.proofs.Common.{ap, true}
use Rattle.js_heap.specs.Names.{bindings}
use Rattle.js_heap.proofs.Bindings.{is_some-value, with_binding-bindings}
use Rattle.js_heap.proofs.scope.Names.replace.Goals as goal

pub returns-clause-found : goal.returns-clause-found
returns-clause-found c = rw (← c.self.view_is, is_some-value) c.replace.ensures.found

pub returns-clause-replaced : goal.returns-clause-replaced
returns-clause-replaced c = λ e. rw (← c.self.view_is, with_binding-bindings c.args.name.now c.args.value true) (ap bindings (c.replace.ensures.replaced true e))
