use Rattle.std.proofs.Common.{◌≡◌, [], ◌∷◌, ◌++◌, reverse, OnOk, if◌then◌else◌, false, sym, ap, subst, ◌∙◌}
use Rattle.js_tree.specs.declared.walk.Item.TheVariants as item
use Rattle.js_tree.specs.Trees.{caught, nodes}
use Rattle.js_tree.specs.Walk.{items_in, wants_variables}
use Rattle.js_tree.proofs.Items.{catch_pushed}
use Rattle.js_tree.proofs.walk.push_catch.Goals as goal

pub returns-in_ok-push_nodes-in-Some : goal.returns-in_ok-push_nodes-in-Some
returns-in_ok-push_nodes-in-Some c =
    let same = catch_pushed (wants_variables c.args.wanted) (if wants_variables c.args.wanted then item.Word c.in-Some.clause.name ∷ [] else []) c.in-Some.clause.statements (reverse c.push_nodes.new.stack.items)
    (reverse c.args.stack.now.items) (c.in_ok-push_nodes-in-Some.ensures ∙ ap (λ ids. items_in false (nodes ids) ++ reverse c.args.stack.now.items) c.as_slice.ensures) in
    subst (λ l. OnOk c.push_name.result (reverse c.push_name.new.stack.items ≡ l)) (same ∙ ap (λ k. items_in (wants_variables c.args.wanted) (caught k) ++ reverse c.args.stack.now.items) (sym c.in-Some.is)) c.push_name.ensures
