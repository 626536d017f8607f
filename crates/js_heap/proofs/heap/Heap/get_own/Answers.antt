use Rattle.std.proofs.Common.{◌≡◌, ◌<◌, Option, length, ap, subst, sym, ◌∙◌}
use Rattle.std.specs.Option.{option_copied}
use Rattle.js_value.specs.declared.value.Value.{Value}
use Rattle.js_table.specs.Properties.{value_named}
use Rattle.js_heap.specs.Objects.{get_own}
use Rattle.js_heap.specs.World.{World}
use Rattle.js_heap.proofs.Closing.{closed_seen, found-there, get_own-there}
use Rattle.js_heap.proofs.Walks.{object_value}
use Rattle.js_heap.proofs.heap.Heap.get_own.Goals as goal

pub returns-clause-there : goal.returns-clause-there
returns-clause-there c =
    let os = c.self.inside.objects.items in
    let n = c.args.obj.number in
    let P : World → Type 0 = λ w. n < length w.objects in
    let F : World → Option Value = λ w. get_own w c.args.obj c.args.key.now in
    let own : option_copied c.value.result ≡ value_named c.args.key.now c.index.result.now.properties = rw c.as_slice.ensures at c.value.ensures in
    let there : n < length os = subst P (sym c.self.view_is) c.requires in
    let found = sym (object_value c.args.key.now os n c.index.result.now (option_copied c.value.result) there c.index.ensures own) ∙ ap F c.self.view_is in
    let closed = closed_seen os c.self.inside.scopes.items c.args.self.now c.self.view_is c.self.invariant.0 in
    found-there c.args.self.now c.value.result (get_own c.args.self.now c.args.obj c.args.key.now) found (λ v. get_own-there c.args.self.now c.args.obj c.args.key.now v closed)
