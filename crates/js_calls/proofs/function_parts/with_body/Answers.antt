use Rattle.std.proofs.Common.{◌≤◌, ◌<◌, Some, ap, arith, length, subst, sym, ◌∙◌}
use Rattle.js_tree.specs.TreeAt.{tree_of}
use Rattle.js_tree.specs.Trees.{nodes, parts}
use Rattle.js_tree.specs.declared.node.Node.TheVariants as node
use Rattle.js_stmt.proofs.NodeParts.{held_within}
use Rattle.js_stmt.specs.Parts.{IsHeld}
use Rattle.js_calls.specs.Calls.{statements_in}
use Rattle.js_calls.proofs.NodeTrees.{node_tree}
use Rattle.js_calls.proofs.function_parts.with_body.Goals as goal

pub returns-in-Body-clause-statements : goal.returns-in-Body-clause-statements
returns-in-Body-clause-statements c =
    let a = c.args.script.now in
    let id = c.in_ok-id.id in
    let tree = node_tree a c.count-nodes.ensures.ordered id
    (node.Body c.in-Body.statements c.in-Body.scope)
    (c.node.ensures.is ∙ ap Some c.in-Body.is) in
    ap (λ ids. tree_of a (nodes ids)) c.as_slice.ensures
    ∙ sym (ap statements_in
    (c.requires.read.bodies c.args.body.number id c.in_ok-id.ensures.is ∙ tree.is))

pub returns-in-Body-clause-held : goal.returns-in-Body-clause-held
returns-in-Body-clause-held c =
    let a = c.args.script.now in
    let id = c.in_ok-id.id in
    let there : id.number < length a.kept = c.in_ok-id.ensures.within in
    let few : id.number ≤ length a.kept = omega (arith, there) in
    let held = subst (λ n. IsHeld a (parts n)) c.in-Body.is
    (held_within a c.count-nodes.ensures.ordered id.number (length a.pending) few
    (parts c.node.result.now) c.node.ensures.within) in
    subst (λ ids. IsHeld a (nodes ids)) (sym c.as_slice.ensures) held.0
