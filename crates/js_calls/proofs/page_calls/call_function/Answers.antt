use Rattle.std.proofs.Common.{◌≡◌, Some, ap, subst, sym, ◌∙◌}
use Rattle.std.specs.Prelude.{IfSome}
use Rattle.std.proofs.lemmas.Result.{IfOk-weaker}
use Rattle.js_value.specs.Image.{image}
use Rattle.js_reference.specs.Hosted.{hosted}
use Rattle.js_tree.specs.Arena.{function_at, scope}
use Rattle.js_tree.specs.TreeAt.{function_tree, tree_at}
use Rattle.js_tree.specs.Trees.{nodes}
use Rattle.js_stmt.specs.Parts.{IsHeld}
use Rattle.js_calls.specs.Asks.{asks}
use Rattle.js_calls.specs.Calls as calls
use Rattle.js_calls.specs.Calls.{function_in, scope_of}
use Rattle.js_calls.specs.Entered.{function_as}
use Rattle.js_calls.proofs.NodeTrees.{function_of_text, scope_read}
use Rattle.js_calls.proofs.page_calls.call_function.Goals as goal

pub returns-clause-value : goal.returns-clause-value
returns-clause-value g c =
    let a = c.args.script.now in
    let unit = c.args.code.node in
    let node = c.in-Some.node in
    let parts = c.in-Some-function_parts.parts in
    let found = c.in-Some-function_parts.is in
    let f = function_as a parts in
    let at : function_at a unit ≡ Some node = sym c.function_at.ensures.is ∙ c.in-Some.is in
    let same : f ≡ function_in (tree_at a node) =
    subst (λ o. IfSome o (λ p. function_as a p ≡ function_in (tree_at a node))) found
    c.function_parts.ensures.is in
    let held : IsHeld a (nodes parts.statements.now) =
    subst (λ o. IfSome o (λ p. IsHeld a (nodes p.statements.now))) found
    c.function_parts.ensures.held in
    let carried : Some parts.scope.now ≡ scope a node =
    subst (λ o. IfSome o (λ p. Some p.scope.now ≡ scope a node)) found
    c.function_parts.ensures.scope in
    let names : parts.scope.now ≡ scope_of f =
    scope_read a c.requires.read unit node parts.scope.now f at carried same in
    let text : f ≡ function_in (function_tree a unit) = function_of_text a unit node f at same in
    IfOk-weaker c.call_parts.result _ _
    (λ r is. is
    ∙ ap
    (λ x. calls.call_function (hosted g.H.Host.rows) asks c.args.heap.now c.args.host.now
    c.args.code x (image c.args.f.now) c.args.call.construct c.args.call.this c.args.call.args)
    text)
    (c.call_parts.ensures.value a held names)
