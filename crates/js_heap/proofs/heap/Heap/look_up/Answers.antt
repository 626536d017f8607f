use Rattle.std.proofs.Common.{◌≡◌, rules}
use Rattle.std.specs.Option.{option_copied}
use Rattle.js_heap.specs.Scopes.{look_up}
use Rattle.js_heap.proofs.Closing.{closed_seen, found-there, look_up-there}
use Rattle.js_heap.proofs.heap.Heap.look_up.Goals as goal

pub returns-clause-there : goal.returns-clause-there
returns-clause-there c =
    let found : option_copied c.value_along.result ≡ look_up c.args.self.now c.args.scope c.args.name.now = search rules in
    let closed = closed_seen c.self.inside.objects.items c.self.inside.scopes.items c.args.self.now c.self.view_is c.self.invariant.0 in
    found-there c.args.self.now c.value_along.result (look_up c.args.self.now c.args.scope c.args.name.now) found (λ v. look_up-there c.args.self.now c.args.scope.number c.args.name.now v closed)
