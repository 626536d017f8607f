-- Nodes of the arenas of texts, and values, are operands that free moves begin, where the labels
-- directly around the operands of a node that is there are its own.
use Rattle.std.proofs.Common.{◌≡◌, ℕ, ◌+◌, ◌<◌, List, [], ◌∷◌, Bool, Option}
use Rattle.std.proofs.Common.{Some, None, map, slice_get, refl, ap, sym, ◌∙◌, subst, arith}
use Rattle.std.specs.Option.{option_map}
use Rattle.js_value.specs.declared.value.Value.{Value}
use Rattle.js_tree.specs.declared.node.Node.{Node}
use Rattle.js_tree.specs.declared.node.NodeId.{NodeId}
use Rattle.js_tree.specs.declared.production.Production.{Production}
use Rattle.js_tree.specs.declared.script.Kept.{Kept}
use Rattle.js_tree.specs.Arena.{Arena, IsOrdered, node_at}
use Rattle.js_tree.specs.Runs.{labels_before}
use Rattle.js_tree.specs.Trees.{Tree, parts, production_of}
use Rattle.js_tree.specs.TreeAt.{body_at, node_with, opened as opened_tree, tree_at, tree_of}
use Rattle.js_term.specs.declared.operands.Operand.{Operand}
use Rattle.js_term.specs.declared.operands.Operand.TheVariants as operand
use Rattle.js_term.specs.ArenaOperands.{as_operands, begun_as, begun_at, begun_node, node_literal}
use Rattle.js_term.specs.ArenaOperands.{node_operands}
use Rattle.js_term.specs.ArenaSyntax.{arena_syntax, operand_focus, operand_term, operand_weight}
use Rattle.js_term.specs.ArenaSyntax.{tree_focus}
use Rattle.js_term.specs.Frames.{focus_term}
use Rattle.js_term.specs.Moves.{IsSyntax, focus_weight}
use Rattle.js_term.specs.Operands.{Labels, literal, made, opened, operands, term_of, total, weight}
use Rattle.js_term.specs.Place.{Place}
use Rattle.js_term.specs.Place.Place.{At}
use Rattle.js_term.specs.Term.{Term, node, terms}
use Rattle.js_term.proofs.ArenaOperands.{kept-trees, literal-trees}
use Rattle.js_term.proofs.ArenaTrees.{tree-opened}
use Rattle.js_term.proofs.Trees.{operands-light, term-opened}

terms-map : {R : Type 0} (f : Operand → Term R) (g : Tree → Term R) (tree : NodeId → Tree) →
    ((id : NodeId) → f (operand.Node id) ≡ g (tree id))
    → (ids : List NodeId) → terms f (as_operands ids) ≡ terms g (map tree ids)
terms-map f g tree e [] = refl
terms-map f g tree e (id ∷ ids) =
    let a = e id in
    let b = terms-map f g tree e ids in
    cc

total-map : (f : Operand → ℕ) (tree : NodeId → Tree) → ((id : NodeId) → f
    (operand.Node id) ≡ weight (tree id))
    → (ids : List NodeId) → total f (as_operands ids) ≡ total weight (map tree ids)
total-map f tree e [] = refl
total-map f tree e (id ∷ ids) =
    let a = e id in
    let b = total-map f tree e ids in
    cc

module _ {R : Type 0} (no_step : R → Bool) (row : Labels → Place → Production → Tree → R)
    (text : R → ℕ) (labels : R → Labels)
    (arenas : ℕ → Arena)
    (named : (x u : ℕ) (ls : Labels) (p : Production) (ts : Tree) → text (row ls
    (At x u) p ts) ≡ x)
    (around : (x u : ℕ) (ls : Labels) (n : Node)
    → labels (row ls (At x u) (production_of n) (tree_of (arenas x) (parts n))) ≡ labels_before
    (production_of n) (tree_of (arenas x) (parts n)) ls)
    (ordered : (x : ℕ) → IsOrdered (arenas x)) where
  abbrev part : ℕ → Node → Tree
  part x n = tree_of (arenas x) (parts n)

  abbrev term : R → Operand → Term R
  term r o = operand_term no_step row (text r) (labels r) (arenas (text r)) o

  abbrev heavy : R → Operand → ℕ
  heavy r = operand_weight (arenas (text r))

  -- the operands of a row that has begun, by the row's text and labels
  begun-terms : (r : R) (x : ℕ) (ls : Labels) (ids : List NodeId) → text r ≡ x
      → labels r ≡ ls
      → terms (term r) (as_operands ids) ≡ terms (term_of no_step row x ls) (map (tree_at
      (arenas x)) ids)
  begun-terms r x ls ids e g =
      terms-map (term r) (term_of no_step row (text r) (labels r)) (tree_at (arenas (text r)))
      (λ id. refl) ids
      ∙ (ap (λ y. terms (term_of no_step row y (labels r)) (map (tree_at (arenas y)) ids)) e
      ∙ ap (λ ms. terms (term_of no_step row x ms) (map (tree_at (arenas x)) ids)) g)

  begun-weight : (r : R) (x : ℕ) (ids : List NodeId) → text r ≡ x → total (heavy r)
      (as_operands ids) ≡ total weight (map (tree_at (arenas x)) ids)
  begun-weight r x ids e =
      total-map (heavy r) (tree_at (arenas (text r))) (λ id. refl) ids
      ∙ ap (λ y. total weight (map (tree_at (arenas y)) ids)) e

  -- a node that is there
  literal-same : (x : ℕ) (ls : Labels) (n : Node) (u v : ℕ) (l : Option Value) → literal
      (production_of n) (part x n) ≡ l
      → map (tree_at (arenas x)) (node_operands (node_at (arenas x)) n) ≡ operands
      (production_of n) (part x n)
      → focus_term no_step term (tree_focus no_step row x ls (Tree.Made (production_of n) u v
      (part x n)) (begun_node (node_at (arenas x)) n l))
      ≡ made no_step row (term_of no_step row x) ls (At x u) (production_of n) (part x n) l
  literal-same x ls n u v (Some w) e g = refl
  literal-same x ls n u v None e g =
      ap (node no_step (row ls (At x u) (production_of n) (part x n)))
      (begun-terms (row ls (At x u) (production_of n) (part x n)) x (labels_before (production_of n)
      (part x n) ls) (node_operands (node_at (arenas x)) n)
      (named x u ls (production_of n) (part x n)) (around x u ls n)
      ∙ ap (terms (term_of no_step row x (labels_before (production_of n) (part x n) ls))) g)

  literal-lighter : (x : ℕ) (ls : Labels) (n : Node) (u v : ℕ) (l : Option Value)
      → map (tree_at (arenas x)) (node_operands (node_at (arenas x)) n) ≡ operands
      (production_of n) (part x n)
      → focus_weight (arena_syntax no_step row text labels arenas)
      (tree_focus no_step row x ls (Tree.Made (production_of n) u v (part x n)) (begun_node (node_at
      (arenas x)) n l))
      < 6 + weight (part x n)
  literal-lighter x ls n u v (Some w) g = omega arith
  literal-lighter x ls n u v None g =
      omega (
        arith,
        operands-light (production_of n) (part x n),
        begun-weight (row ls (At x u) (production_of n) (part x n)) x (node_operands (node_at
            (arenas x)) n) (named x u ls (production_of n) (part x n)) ∙ ap (total weight) g,
      )

  abbrev tree_by : ℕ → Option Kept → Tree
  tree_by x o = opened_tree (node_with (arenas x).kept (body_at (arenas x))) (body_at (arenas x)) o

  abbrev node_by : Option Kept → Option Node
  node_by o = option_map (λ (k : Kept). k.node) o

  kept-same : (x : ℕ) (ls : Labels) (id : NodeId) (o : Option Kept) → slice_get
      (arenas x).kept id.number ≡ o
      → focus_term no_step term (tree_focus no_step row x ls (tree_by x o) (begun_at (node_at
      (arenas x)) (node_by o)))
      ≡ opened no_step row (term_of no_step row x) ls x (tree_by x o)
  kept-same x ls id None e = refl
  kept-same x ls id (Some k) e =
      ap (λ l. focus_term no_step term (tree_focus no_step row x ls (Tree.Made
      (production_of k.node) k.from k.to (part x k.node)) (begun_node (node_at
      (arenas x)) k.node l)))
      (literal-trees (arenas x) (ordered x) k.node)
      ∙ literal-same x ls k.node k.from k.to (literal (production_of k.node) (part x k.node)) refl
      (kept-trees (arenas x) (ordered x) id k e)

  kept-lighter : (x : ℕ) (ls : Labels) (id : NodeId) (o : Option Kept) → slice_get
      (arenas x).kept id.number ≡ o
      → focus_weight (arena_syntax no_step row text labels arenas) (tree_focus no_step row x ls
      (tree_by x o) (begun_at (node_at (arenas x)) (node_by o)))
      < 1 + weight (tree_by x o)
  kept-lighter x ls id None e = omega arith
  kept-lighter x ls id (Some k) e =
      omega (
        arith,
        literal-lighter x ls k.node k.from k.to (node_literal k.node) (kept-trees
            (arenas x) (ordered x) id k e),
      )

  tree-by : (x : ℕ) (id : NodeId) → tree_at (arenas x) id ≡ tree_by x (slice_get
      (arenas x).kept id.number)
  tree-by x id = tree-opened (body_at (arenas x)) (arenas x) (ordered x) id.number

  operand-same : (r : R) (o : Operand) → focus_term no_step term (operand_focus no_step row
      (text r) (labels r) (arenas (text r)) o) ≡ term r o
  operand-same r (operand.Value v) = refl
  operand-same r (operand.Node id) =
      ap (λ t. focus_term no_step term (tree_focus no_step row (text r) (labels r) t (begun_as
      (arenas (text r)) id))) (tree-by (text r) id)
      ∙ (kept-same (text r) (labels r) id (slice_get (arenas (text r)).kept id.number) refl
      ∙ (sym (ap (opened no_step row (term_of no_step row (text r)) (labels r) (text r)) (tree-by
      (text r) id))
      ∙ sym (term-opened no_step row (text r) (labels r) (tree_at (arenas (text r)) id))))

  operand-lighter : (r : R) (o : Operand)
      → focus_weight (arena_syntax no_step row text labels arenas) (operand_focus no_step row
      (text r) (labels r) (arenas (text r)) o) < 1 + heavy r o
  operand-lighter r (operand.Value v) = omega arith
  operand-lighter r (operand.Node id) =
      subst (λ t. focus_weight (arena_syntax no_step row text labels arenas)
      (tree_focus no_step row (text r) (labels r) t (begun_as (arenas
      (text r)) id)) < 1 + weight t)
      (sym (tree-by (text r) id)) (kept-lighter (text r) (labels r) id (slice_get (arenas
      (text r)).kept id.number) refl)

  pub nodes-are-syntax : IsSyntax (arena_syntax no_step row text labels arenas) no_step
  nodes-are-syntax = record { same = operand-same; lighter = operand-lighter }
