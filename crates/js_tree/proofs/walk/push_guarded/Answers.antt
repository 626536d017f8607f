use Rattle.std.proofs.Common.{◌≡◌, ◌++◌, reverse, OnOk, ap, subst, ◌∙◌, false}
use Rattle.js_tree.specs.Trees.{caught, nodes}
use Rattle.js_tree.specs.Walk.{items_in, wants_variables}
use Rattle.js_tree.proofs.Items.{try_pushed}
use Rattle.js_tree.proofs.walk.push_guarded.Goals as goal

pub returns : goal.returns
returns c =
    let same = try_pushed (wants_variables c.args.wanted) c.args.guarded.now.block (items_in (wants_variables c.args.wanted) (caught c.args.guarded.now.catch)) c.args.guarded.now.finally (reverse c.push_last.new.stack.items)
    (reverse c.push_catch.new.stack.items) (reverse c.args.stack.now.items) c.in_ok-push_last.ensures c.in_ok-push_catch.ensures in
    subst (λ l. OnOk c.push_nodes.result (reverse c.push_nodes.new.stack.items ≡ l))
    (ap (λ ids. items_in false (nodes ids) ++ reverse c.push_catch.new.stack.items) c.as_slice.ensures ∙ same) c.push_nodes.ensures
