use Rattle.std.proofs.Common.{◌≡◌, rules}
use Rattle.std.specs.Option.{option_copied}
use Rattle.js_heap.specs.Objects as objects
use Rattle.js_heap.proofs.Closing.{closed_seen, found-there, get-there}
use Rattle.js_heap.proofs.heap.Heap.get.Goals as goal

pub returns-clause-there : goal.returns-clause-there
returns-clause-there c =
    let found : option_copied c.value_along.result ≡ objects.get c.args.self.now c.args.obj c.args.key.now = search rules in
    let closed = closed_seen c.self.inside.objects.items c.self.inside.scopes.items c.args.self.now c.self.view_is c.self.invariant.0 in
    found-there c.args.self.now c.value_along.result (objects.get c.args.self.now c.args.obj c.args.key.now) found (λ v. get-there c.args.self.now c.args.obj c.args.key.now v closed)
