-- Lists of statements as operands and as trees.
use Rattle.std.proofs.Common.{◌≡◌, List, [], ◌∷◌, Bool, true, false}
use Rattle.std.proofs.Common.{Option, Some, None, refl, ap, ◌∙◌}
use Rattle.std.specs.Prelude.{if◌then◌else◌}
use Rattle.js_tree.specs.Arena.{Arena}
use Rattle.js_tree.specs.TreeAt.{tree_at, tree_of}
use Rattle.js_tree.specs.Trees.{Tree, at_last, nodes}
use Rattle.js_tree.specs.declared.node.NodeId.{NodeId}
use Rattle.js_term.specs.ArenaOperands.{as_operands}
use Rattle.js_term.specs.Evaluation.{Evaluation}
use Rattle.js_term.specs.Operands.{listed}
use Rattle.js_term.specs.declared.completion.Completion.{Completion}
use Rattle.js_term.specs.declared.context.Context.{Context}
use Rattle.js_stmt.specs.CodeRows.{fresh, operand_trees}
use Rattle.js_stmt.specs.Made.Progress.{GoesOn}
use Rattle.js_stmt.specs.Parts.{IsHeld, is_node}
use Rattle.js_stmt.specs.Rows.StmtRow.{Finally}
use Rattle.js_stmt.specs.Tries.{into_finally}

-- one of two, by a test that is known
pub chosen : {X : Type 0} (b : Bool) (x y : X) → b ≡ true → x ≡ (if b then x else y)
chosen true x y e = refl
chosen false x y e = cc

pub other : {X : Type 0} (b : Bool) (x y : X) → b ≡ false → y ≡ (if b then x else y)
other true x y e = cc
other false x y e = refl

listed_node : (t ts : Tree) → is_node t ≡ true → t ∷ listed ts ≡ listed (Tree.Cons t ts)
listed_node (Tree.Made p u v us) ts e = refl
listed_node t ts e = cc

module _ (a : Arena) (c : Context) where
  pub statements_held : (ids : List NodeId) → IsHeld a (nodes ids)
      → operand_trees a c (as_operands ids) ≡ listed (tree_of a (nodes ids))
  statements_held [] h = refl
  statements_held (id ∷ ids) h =
      ap (λ ts. tree_at a id ∷ ts) (statements_held ids h.1)
      ∙ listed_node (tree_at a id) (tree_of a (nodes ids)) h.0

  nodes_entered : (ids : List NodeId) (k : Option Completion) → IsHeld a (nodes ids)
      → GoesOn (Finally k) [] (operand_trees a c (as_operands ids))
      ≡ into_finally (tree_of a (nodes ids)) k
  nodes_entered [] k h = refl
  nodes_entered (id ∷ ids) k h = ap (GoesOn (Finally k) []) (statements_held (id ∷ ids) h)

  -- into `finally` over its statements
  pub finally_entered : (o : Option (List NodeId)) (ids : List NodeId) (k : Option Completion)
      (e : Evaluation) → o ≡ Some ids → e ≡ fresh ids → IsHeld a (at_last o)
      → GoesOn (Finally k) e.done (operand_trees a c e.todo) ≡ into_finally (tree_of a (at_last o)) k
  finally_entered None ids k e g f h = cc
  finally_entered (Some is) ids k e g f h =
      let same : ids ≡ is = cc in
      ap (λ (e : Evaluation). GoesOn (Finally k) e.done (operand_trees a c e.todo)) (f ∙ ap fresh same)
      ∙ nodes_entered is k h
