use Rattle.std.proofs.Common.{◌≡◌, decimal, rules}
use Rattle.std.specs.Option.{option_copied}
use Rattle.js_heap.specs.Objects as objects
use Rattle.js_heap.proofs.Closing.{closed_seen, found-there, get-there}
use Rattle.js_heap.proofs.heap.Heap.get_at.Goals as goal

pub returns-clause-there : goal.returns-clause-there
returns-clause-there c =
    let found : option_copied c.value_along.result ≡ objects.get c.args.self.now c.args.obj (decimal c.args.index) = search rules in
    let closed = closed_seen c.self.inside.objects.items c.self.inside.scopes.items c.args.self.now c.self.view_is c.self.invariant.0 in
    found-there c.args.self.now c.value_along.result (objects.get c.args.self.now c.args.obj (decimal c.args.index)) found (λ v. get-there c.args.self.now c.args.obj (decimal c.args.index) v closed)
