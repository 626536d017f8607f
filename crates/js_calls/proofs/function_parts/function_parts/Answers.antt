use Rattle.std.proofs.Common.{◌≡◌, ◌≤◌, [], ◌∷◌, None, Some, ap, arith, length, subst, sym, ◌∙◌}
use Rattle.std.specs.Prelude.{codes}
use Rattle.std.specs.Option.{option_copied}
use Rattle.js_tree.specs.TreeAt.{tree_of}
use Rattle.js_tree.specs.Trees.{nodes, parts}
use Rattle.js_tree.specs.declared.node.Node.TheVariants as node
use Rattle.js_stmt.proofs.NodeParts.{held_within}
use Rattle.js_stmt.specs.Parts.{IsHeld}
use Rattle.js_calls.specs.Calls.{function_in}
use Rattle.js_calls.proofs.Joined.{some_of_three}
use Rattle.js_calls.proofs.NodeTrees.{declaration_is, function_from, function_is, node_tree}
use Rattle.js_calls.proofs.function_parts.function_parts.Goals as goal

pub returns-in-Function-clause-is : goal.returns-in-Function-clause-is
returns-in-Function-clause-is c =
    let a = c.args.script.now in
    let h = c.in-Function.head.value in
    let k = c.in-Function.body.number in
    let tree = node_tree a c.count-nodes.ensures.ordered c.args.id
    (node.Function c.in-Function.head c.in-Function.body)
    (c.node.ensures.is ∙ ap Some c.in-Function.is) in
    let own : option_copied c.as_ref.result ≡ h.name = cc in
    let listed : c.as_slice.result.now ≡ h.parameters = cc in
    some_of_three c.with_body.result _ _ _ _
    (λ p o ps ss. function_is a p k h.name h.parameters (o ∙ own) (ps ∙ listed) ss
    ∙ sym (ap function_in tree.is))
    c.with_body.ensures.own c.with_body.ensures.parameters c.with_body.ensures.statements

pub returns-in-Declaration-clause-is : goal.returns-in-Declaration-clause-is
returns-in-Declaration-clause-is c =
    let a = c.args.script.now in
    let h = c.in-Declaration.head.value in
    let k = c.in-Declaration.body.number in
    let tree = node_tree a c.count-nodes.ensures.ordered c.args.id
    (node.Declaration c.in-Declaration.head c.in-Declaration.body)
    (c.node.ensures.is ∙ ap Some c.in-Declaration.is) in
    let listed : c.as_slice-in-Declaration.result.now ≡ h.parameters = cc in
    some_of_three c.with_body-in-Declaration.result _ _ _ _
    (λ p o ps ss. declaration_is a p k h.parameters o (ps ∙ listed) ss
    ∙ sym (ap function_in tree.is))
    c.with_body-in-Declaration.ensures.own c.with_body-in-Declaration.ensures.parameters
    c.with_body-in-Declaration.ensures.statements

pub returns-in-Handler-clause-is : goal.returns-in-Handler-clause-is
returns-in-Handler-clause-is c =
    let a = c.args.script.now in
    let tree = node_tree a c.count-nodes.ensures.ordered c.args.id
    (node.Handler c.in-Handler.statements c.in-Handler.scope)
    (c.node.ensures.is ∙ ap Some c.in-Handler.is) in
    ap (λ ids. function_from a None (codes "event" ∷ []) (tree_of a (nodes ids)))
    c.as_slice-in-Handler.ensures
    ∙ sym (ap function_in tree.is)

pub returns-in-Handler-clause-held : goal.returns-in-Handler-clause-held
returns-in-Handler-clause-held c =
    let a = c.args.script.now in
    let there = c.requires.there in
    let few : c.args.id.number ≤ length a.kept = omega (arith, there) in
    let held = subst (λ n. IsHeld a (parts n)) c.in-Handler.is
    (held_within a c.count-nodes.ensures.ordered c.args.id.number (length a.pending) few
    (parts c.node.result.now) c.node.ensures.within) in
    subst (λ ids. IsHeld a (nodes ids)) (sym c.as_slice-in-Handler.ensures) held.0
