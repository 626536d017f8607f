-- The row of an arena's node is that of its tree.
use Rattle.std.proofs.Common.{◌≡◌, ℕ, ◌<◌, ◌≤◌, List, [], ◌∷◌, Bool, true, false, Option, Some, None, is_some, length, map, slice_get, refl, ap, sym, ◌∙◌, subst, arith}
use Rattle.std.specs.Option.{option_map}
use Rattle.std.proofs.lemmas.Option.{slice_get_within}
use Rattle.js_tree.specs.declared.node.Entry.{Entry}
use Rattle.js_tree.specs.declared.node.Node.{Node}
use Rattle.js_tree.specs.declared.node.Node.TheVariants as node
use Rattle.js_tree.specs.declared.node.NodeId.{NodeId}
use Rattle.js_tree.specs.declared.production.BinaryOperator.{BinaryOperator}
use Rattle.js_tree.specs.declared.production.Production.TheVariants as production
use Rattle.js_tree.specs.declared.production.UnaryOperator.{UnaryOperator}
use Rattle.js_tree.specs.declared.production.UnaryOperator.TheVariants as unary
use Rattle.js_tree.specs.declared.production.UpdateOperator.{UpdateOperator}
use Rattle.js_tree.specs.declared.script.Kept.{Kept}
use Rattle.js_tree.specs.Arena.{Arena, IsOrdered, IsWithin, node_at}
use Rattle.js_tree.specs.Trees.{Part, Tree, elements, entries, nodes, parts, production_of}
use Rattle.js_tree.specs.TreeAt.{body_at, node_with, opened, part_of, tree_at}
use Rattle.js_tree.proofs.Held.{kept_at}
use Rattle.js_term.specs.Operands.{listed}
use Rattle.js_term.proofs.ArenaTrees.{tree-opened}
use Rattle.js_operands.specs.ArenaRows.{assign_row_of, assignment_row_of, call_row_of, delete_row_of, node_row, revise_row_of, row_of, type_row_of, unary_row_of, update_row_of}
use Rattle.js_operands.specs.Rows.{ExprRow}
use Rattle.js_operands.specs.Syntax.{elements_there, entry_keys, expr_row, row_of_assignment, row_of_call, row_of_delete, row_of_revision, row_of_type, row_of_unary, row_of_update, tree_row}
use Rattle.js_operands.specs.declared.row.Side.{Side}
use Rattle.js_operands.specs.declared.row.Side.TheVariants.{Before, Behind}

is_made : Tree → Bool
is_made (Tree.Made p u v ts) = true
is_made t = false

listed-made : (t ts : Tree) → is_made t ≡ true → listed (Tree.Cons t ts) ≡ t ∷ listed ts
unfolding is_made
listed-made (Tree.Made p u v us) ts e = refl
listed-made t ts e = cc

there-made : (t ts : Tree) → is_made t ≡ true → elements_there (Tree.Cons t ts) ≡ true ∷ elements_there ts
unfolding is_made
there-made (Tree.Made p u v us) ts e = refl
there-made t ts e = cc

opened-made : (f bodies : ℕ → Tree) (o : Option Kept) (k : Kept) → o ≡ Some k → is_made (opened f bodies o) ≡ true
unfolding is_made
opened-made f bodies (Some k) l e = refl
opened-made f bodies None l e = cc

module _ (arena : Arena) (is : IsOrdered arena) where
  abbrev tree : NodeId → Tree
  tree id = tree_at arena id

  abbrev part : Part → Tree
  part p = part_of (node_with arena.kept (body_at arena)) (body_at arena) p

  abbrev look : NodeId → Option Node
  look id = node_at arena id

  made-there : (id : NodeId) → id.number < length arena.kept → is_made (tree id) ≡ true
  made-there id l =
      let found = kept_at arena.kept id.number l in
      ap is_made (tree-opened (body_at arena) arena is id.number)
      ∙ opened-made (node_with arena.kept (body_at arena)) (body_at arena) (slice_get arena.kept id.number) found.0 found.1

  -- a node's tree by the node
  abbrev made : Node → (from to : ℕ) → Tree
  made n from to = Tree.Made (production_of n) from to (part (parts n))

  module _ (m count : ℕ) (few : m ≤ length arena.kept) where
    nodes-trees : (ids : List NodeId) → IsWithin m count (nodes ids) → map tree ids ≡ listed (part (nodes ids))
    nodes-trees [] w = refl
    nodes-trees (id ∷ ids) w =
        ap (λ ts. tree id ∷ ts) (nodes-trees ids w.1)
        ∙ sym (listed-made (tree id) (part (nodes ids)) (made-there id (omega (arith, few, w.0))))

    elements-rows : (es : List (Option NodeId)) → IsWithin m count (elements es) → map is_some es ≡ elements_there (part (elements es))
    elements-rows [] w = refl
    elements-rows (None ∷ es) w = ap (λ bs. false ∷ bs) (elements-rows es w.1)
    elements-rows (Some id ∷ es) w =
        ap (λ bs. true ∷ bs) (elements-rows es w.1)
        ∙ sym (there-made (tree id) (part (elements es)) (made-there id (omega (arith, few, w.0))))

    entries-rows : (es : List Entry) → map (λ e. e.key) es ≡ entry_keys (part (entries es))
    entries-rows [] = refl
    entries-rows (e ∷ es) = ap (λ ks. e.key ∷ ks) (entries-rows es)

    -- what holds of a node that is there holds of it where it is looked up
    looked : (id : NodeId) → id.number < length arena.kept → (P : Option Node → Tree → Type 0)
        → ((n : Node) (u v : ℕ) → P (Some n) (made n u v)) → P (look id) (tree id)
    looked id l P h =
        let found = kept_at arena.kept id.number l in
        let k = found.0 in
        let same : tree id ≡ made k.node k.from k.to =
        tree-opened (body_at arena) arena is id.number
        ∙ ap (opened (node_with arena.kept (body_at arena)) (body_at arena)) found.1 in
        subst (λ o. P (option_map (λ (k : Kept). k.node) o) (tree id)) (sym found.1)
        (subst (λ t. P (Some k.node) t) (sym same) (h k.node k.from k.to))

    call-rows : (n : Node) (u v : ℕ) (xs : List NodeId) → call_row_of arena (Some n) xs ≡ row_of_call (made n u v) (map tree xs)
    call-rows (node.Member e k) u v xs = refl
    call-rows (node.Index e k) u v xs = refl
    call-rows n u v xs = refl

    assign-rows : (n : Node) (u v : ℕ) → assign_row_of arena (Some n) ≡ row_of_assignment (made n u v)
    assign-rows (node.Name x) u v = refl
    assign-rows (node.Member e k) u v = refl
    assign-rows (node.Index e k) u v = refl
    assign-rows n u v = refl

    revise-rows : (o : BinaryOperator) (n : Node) (u v : ℕ) (e : NodeId) → revise_row_of arena o (Some n) e ≡ row_of_revision o (made n u v) (tree e)
    revise-rows o (node.Name x) u v e = refl
    revise-rows o (node.Member b k) u v e = refl
    revise-rows o (node.Index b k) u v e = refl
    revise-rows o n u v e = refl

    assignment-rows : (o : Option BinaryOperator) (n : Node) (u v : ℕ) (e : NodeId)
        → assignment_row_of arena o (Some n) e ≡ expr_row (production.Assign o) (Tree.Cons (made n u v) (Tree.Cons (tree e) Tree.Nil))
    assignment-rows None n u v e = assign-rows n u v
    assignment-rows (Some o) n u v e = revise-rows o n u v e

    update-rows : (o : UpdateOperator) (s : Side) (n : Node) (u v : ℕ) → update_row_of arena o s (Some n) ≡ row_of_update o s (made n u v)
    update-rows o s (node.Name x) u v = refl
    update-rows o s (node.Member e k) u v = refl
    update-rows o s (node.Index e k) u v = refl
    update-rows o s n u v = refl

    type-rows : (n : Node) (u v : ℕ) → type_row_of arena (Some n) ≡ row_of_type (made n u v)
    type-rows (node.Name x) u v = refl
    type-rows n u v = refl

    delete-rows : (n : Node) (u v : ℕ) → delete_row_of arena (Some n) ≡ row_of_delete (made n u v)
    delete-rows (node.Member e k) u v = refl
    delete-rows (node.Index e k) u v = refl
    delete-rows n u v = refl

    unary-rows : (o : UnaryOperator) (n : Node) (u v : ℕ) → unary_row_of arena o (Some n) ≡ row_of_unary o (made n u v)
    unary-rows unary.TypeOf n u v = type-rows n u v
    unary-rows unary.Delete n u v = delete-rows n u v
    unary-rows o n u v = refl

    node-rows : (n : Node) → IsWithin m count (parts n) → node_row arena n ≡ expr_row (production_of n) (part (parts n))
    node-rows (node.Array es) w = ap (λ bs. Some (ExprRow.Array bs)) (elements-rows es w.0)
    node-rows (node.Object es) w = ap (λ ks. Some (ExprRow.Object ks)) (entries-rows es)
    node-rows (node.Call f xs) w =
        ap (λ r. Some r) (looked f (omega (arith, few, w.0)) (λ o t. call_row_of arena o xs ≡ row_of_call t (map tree xs)) (λ n u v. call-rows n u v xs)
        ∙ ap (row_of_call (tree f)) (nodes-trees xs w.1.0))
    node-rows (node.Postfix o e) w =
        looked e (omega (arith, few, w.0)) (λ n t. update_row_of arena o Behind n ≡ row_of_update o Behind t) (λ n u v. update-rows o Behind n u v)
    node-rows (node.Prefix o e) w =
        looked e (omega (arith, few, w.0)) (λ n t. update_row_of arena o Before n ≡ row_of_update o Before t) (λ n u v. update-rows o Before n u v)
    node-rows (node.Unary o e) w =
        ap (λ r. Some r) (looked e (omega (arith, few, w.0)) (λ n t. unary_row_of arena o n ≡ row_of_unary o t) (λ n u v. unary-rows o n u v))
    node-rows (node.Assign o a b) w =
        looked a (omega (arith, few, w.0)) (λ n t. assignment_row_of arena o n b ≡ expr_row (production.Assign o) (Tree.Cons t (Tree.Cons (tree b) Tree.Nil)))
        (λ n u v. assignment-rows o n u v b)
    node-rows n w = refl

  kept-rows : (id : NodeId) (o : Option Kept) → slice_get arena.kept id.number ≡ o → row_of arena (option_map (λ (k : Kept). k.node) o) ≡ tree_row (opened (node_with arena.kept (body_at arena)) (body_at arena) o)
  kept-rows id None g = refl
  kept-rows id (Some k) g =
      node-rows id.number (length arena.pending) (omega (arith, slice_get_within arena.kept id.number k g)) k.node (is.nodes id.number k g)

  pub row-tree : (id : NodeId) → row_of arena (node_at arena id) ≡ tree_row (tree id)
  row-tree id = kept-rows id (slice_get arena.kept id.number) refl ∙ sym (ap tree_row (tree-opened (body_at arena) arena is id.number))
