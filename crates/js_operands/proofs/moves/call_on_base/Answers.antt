use Rattle.std.proofs.Common.{◌≡◌, ◌∷◌, ◌++◌, [], List, map, refl, ap, subst, sym, ◌∙◌}
use Rattle.js_value.specs.declared.value.Value.{Value}
use Rattle.js_heap.specs.Closed.{IsThere}
use Rattle.js_host.specs.There.{AreThere}
use Rattle.js_reference.specs.Answers.{answer, answered_names}
use Rattle.js_term.specs.ArenaOperands.{as_operands}
use Rattle.js_tree.specs.TreeAt.{tree_at}
use Rattle.js_operands.specs.Steps.{call_node}
use Rattle.js_operands.specs.ExprMoves.{operand_names, values_coming}
use Rattle.js_operands.specs.Steps.{goes_on, operand_at}
use Rattle.js_operands.proofs.Operands.{call_made, call_there, nodes_coming}
use Rattle.js_operands.proofs.moves.call_on_base.Goals as goal

pub returns-in-Returns-clause-value : goal.returns-in-Returns-clause-value
returns-in-Returns-clause-value g c = λ a r w h.
    let base = operand_at c.args.operands.now.done 0 in
    let xs = c.args.arguments.now in
    let f = c.in-Returns.callee in
    let same : c.in_ok-base-in-Returns.base ≡ base = c.in_ok-base-in-Returns.ensures ∙ c.operand.ensures.value in
    let is = c.in_ok-add_nodes-in-Returns.ensures ∙ ap (λ e. record { done = e.done; todo = e.todo ++ as_operands xs }) c.in_ok-operands-in-Returns.ensures in
    ap (λ x. goes_on (call_node (map (tree_at a) xs) base) (answer x w h)) c.in-Returns.is
    ∙ ap (λ b. call_node (map (tree_at a) xs) b f w h) (sym same)
    ∙ call_made a r f c.in_ok-base-in-Returns.base xs c.add_nodes.new.operands w h is

pub returns-in-Returns-clause-there : goal.returns-in-Returns-clause-there
returns-in-Returns-clause-there g c = λ w vs a.
    let f = c.in-Returns.callee in
    let named : List Value = c.args.operands.now.done ++ values_coming c.args.operands.now.todo in
    let given : AreThere w (f ∷ (named ++ vs)) = subst (λ x. AreThere w (answered_names x (operand_names c.args.operands.now vs))) c.in-Returns.is a in
    let is = c.in_ok-add_nodes-in-Returns.ensures ∙ ap (λ e. record { done = e.done; todo = e.todo ++ as_operands c.args.arguments.now }) c.in_ok-operands-in-Returns.ensures in
    let base : IsThere w c.in_ok-base-in-Returns.base = subst (IsThere w) (sym c.in_ok-base-in-Returns.ensures) (c.operand.ensures.there w vs given.1 tt) in
    call_there w f c.in_ok-base-in-Returns.base named c.args.arguments.now c.add_nodes.new.operands vs is base given

pub returns-in-Returns-clause-shape : goal.returns-in-Returns-clause-shape
returns-in-Returns-clause-shape g c =
    let xs = c.args.arguments.now in
    let is = c.in_ok-add_nodes-in-Returns.ensures ∙ ap (λ e. record { done = e.done; todo = e.todo ++ as_operands xs }) c.in_ok-operands-in-Returns.ensures in
    (refl, ap (λ e. values_coming e.todo) is ∙ nodes_coming xs)
