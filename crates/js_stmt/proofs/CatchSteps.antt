-- Into a catch, or the throw of what doesn't fit.
use Rattle.std.proofs.Common.{◌≡◌, ℕ, List, [], true, false, Option, Some, None, refl, ap, ◌∙◌}
use Rattle.js_value.specs.declared.value.Value.{Value}
use Rattle.js_heap.specs.Scopes.{declare, with_scope}
use Rattle.js_heap.specs.World.{World}
use Rattle.js_heap.specs.declared.class.ScopeId.{ScopeId}
use Rattle.js_reference.specs.Errors.{error_value, with_error}
use Rattle.js_reference.specs.Room.{scopes_fit}
use Rattle.js_reference.specs.declared.error.ErrorName.TheVariants.{RangeError}
use Rattle.js_term.specs.Evaluation.{Evaluation}
use Rattle.js_term.specs.Operands.{listed}
use Rattle.js_term.specs.declared.completion.Completion.TheVariants.{Throw}
use Rattle.js_term.specs.declared.context.Context.{Context}
use Rattle.js_tree.specs.Arena.{Arena}
use Rattle.js_tree.specs.TreeAt.{tree_of}
use Rattle.js_tree.specs.Trees.{Tree, caught as caught_part, nodes}
use Rattle.js_tree.specs.declared.node.Catch.{Catch as CatchOf}
use Rattle.js_tree.specs.declared.node.NodeId.{NodeId}
use Rattle.js_stmt.specs.CodeRows.{fresh, operand_trees}
use Rattle.js_stmt.specs.Made.{made}
use Rattle.js_stmt.specs.Made.Progress.{Completes, GoesOn}
use Rattle.js_stmt.specs.Parts.{IsHeld}
use Rattle.js_stmt.specs.Rows.StmtRow.{Catch}
use Rattle.js_stmt.specs.Steps.{throws}
use Rattle.js_stmt.specs.Tries.{into_catch, into_finally, next_scope, throw_meets, with_caught}
use Rattle.js_stmt.proofs.Lists.{chosen, other, statements_held}

module _ {H : Type 0} (s : Option ScopeId) (w : World) (h : H) (x : List ℕ) (f : Tree)
    (v : Value) where
  pub not_caught : (ss : Tree) (e : Value) (w' : World) → scopes_fit w 1 ≡ false
      → e ≡ error_value w RangeError → w' ≡ with_error w RangeError
      → made (Completes (Throw e)) w' h ≡ into_catch s w h x ss f v
  not_caught ss e w' b is after =
      ap (λ u. made (Completes (Throw u)) w' h) is
      ∙ ap (λ y. made (Completes (Throw (error_value w RangeError))) y h) after
      ∙ other (scopes_fit w 1)
      (made (GoesOn (Catch (next_scope w) f) [] (listed ss)) (with_caught w s x v) h)
      (throws RangeError w h) b

  pub caught : (a : Arena) (c : Context) (ids : List NodeId) (inner : ScopeId) (e : Evaluation)
      (w1 w' : World) → scopes_fit w 1 ≡ true → inner ≡ next_scope w → w1 ≡ with_scope w s
      → w' ≡ declare w1 inner x v → e ≡ fresh ids → IsHeld a (nodes ids)
      → made (GoesOn (Catch inner f) e.done (operand_trees a c e.todo)) w' h
      ≡ into_catch s w h x (tree_of a (nodes ids)) f v
  caught a c ids inner e w1 w' b number scoped declared begun held =
      let world : w' ≡ with_caught w s x v =
      declared ∙ ap (λ y. declare y inner x v) scoped
      ∙ ap (λ n. declare (with_scope w s) n x v) number in
      ap (λ (e : Evaluation). made (GoesOn (Catch inner f) e.done (operand_trees a c e.todo)) w' h) begun
      ∙ ap (λ ts. made (GoesOn (Catch inner f) [] ts) w' h) (statements_held a c ids held)
      ∙ ap (λ n. made (GoesOn (Catch n f) [] (listed (tree_of a (nodes ids)))) w' h) number
      ∙ ap (λ y. made (GoesOn (Catch (next_scope w) f) [] (listed (tree_of a (nodes ids)))) y h) world
      ∙ chosen (scopes_fit w 1)
      (made (GoesOn (Catch (next_scope w) f) [] (listed (tree_of a (nodes ids))))
      (with_caught w s x v) h)
      (throws RangeError w h) b

-- where there is no catch, a throw is kept over `finally`
pub no_catch : {H : Type 0} (s : Option ScopeId) (w : World) (h : H) (f : Tree) (v : Value)
    (a : Arena) (o : Option CatchOf) → o ≡ None
    → made (into_finally f (Some (Throw v))) w h ≡ throw_meets s w h (tree_of a (caught_part o)) f v
no_catch s w h f v a None e = refl
no_catch s w h f v a (Some k) e = cc
