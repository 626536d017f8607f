-- The operands of an arena's node are those of its tree.
use Rattle.std.proofs.Common.{◌≡◌, ℕ, ◌<◌, ◌≤◌, List, [], ◌∷◌, Bool, true, false, Option, Some, None, length, map, slice_get, refl, ap, sym, ◌∙◌, subst, arith}
use Rattle.std.specs.Option.{option_map}
use Rattle.std.proofs.lemmas.Option.{same_Some, slice_get_within}
use Rattle.js_value.specs.declared.value.Value.{Value}
use Rattle.js_tree.specs.declared.node.Declarator.{Declarator}
use Rattle.js_tree.specs.declared.node.Entry.{Entry}
use Rattle.js_tree.specs.declared.node.Node.{Node}
use Rattle.js_tree.specs.declared.node.Node.TheVariants as node
use Rattle.js_tree.specs.declared.node.NodeId.{NodeId}
use Rattle.js_tree.specs.declared.production.BinaryOperator.{BinaryOperator}
use Rattle.js_tree.specs.declared.production.UnaryOperator.{UnaryOperator}
use Rattle.js_tree.specs.declared.production.UnaryOperator.TheVariants.{Delete, TypeOf}
use Rattle.js_tree.specs.declared.production.Production.{Production}
use Rattle.js_tree.specs.declared.production.Production.TheVariants as production
use Rattle.js_tree.specs.declared.script.Kept.{Kept}
use Rattle.js_tree.specs.Arena.{Arena, IsOrdered, IsWithin, node_at}
use Rattle.js_tree.specs.Trees.{Part, Tree, declarators, elements, entries, nodes, parts, production_of}
use Rattle.js_tree.specs.TreeAt.{body_at, node_with, opened, part_of, tree_at}
use Rattle.js_tree.proofs.Held.{kept_at}
use Rattle.js_term.specs.ArenaOperands.{assigned_nodes, call_nodes, deleted_nodes, elements_there, first_value, node_literal, node_operands, statement_nodes, target_nodes, typed_nodes, unary_nodes, values_of_entries}
use Rattle.js_term.specs.Operands.{entry_values, first_initialiser, listed, literal, operands, target_operands, tree_literal, tree_operands}
use Rattle.js_term.proofs.ArenaTrees.{tree-opened}

is_made : Tree → Bool
is_made (Tree.Made p u v ts) = true
is_made t = false

listed-made : (t ts : Tree) → is_made t ≡ true → listed (Tree.Cons t ts) ≡ t ∷ listed ts
unfolding is_made
listed-made (Tree.Made p u v us) ts e = refl
listed-made t ts e = cc

initialiser-made : (k t rest ts : Tree) → is_made t ≡ true
    → first_initialiser (Tree.Cons (Tree.Cons k (Tree.Cons t rest)) ts) ≡ t ∷ []
unfolding is_made
initialiser-made k (Tree.Made p u v us) rest ts e = refl
initialiser-made k t rest ts e = cc

returned-made : (t : Tree) → is_made t ≡ true → t ∷ [] ≡ operands production.Return (Tree.Cons t Tree.Nil)
unfolding is_made
returned-made (Tree.Made p u v ts) e = refl
returned-made t e = cc

opened-made : (f bodies : ℕ → Tree) (o : Option Kept) (k : Kept) → o ≡ Some k → is_made (opened f bodies o) ≡ true
unfolding is_made
opened-made f bodies (Some k) l e = refl
opened-made f bodies None l e = cc

module _ (arena : Arena) (is : IsOrdered arena) where
  abbrev tree : NodeId → Tree
  tree id = tree_at arena id

  abbrev part : Part → Tree
  part p = part_of (node_with arena.kept (body_at arena)) (body_at arena) p

  abbrev look : NodeId → Option Node
  look id = node_at arena id

  made-there : (id : NodeId) → id.number < length arena.kept → is_made (tree id) ≡ true
  made-there id l =
      let found = kept_at arena.kept id.number l in
      ap is_made (tree-opened (body_at arena) arena is id.number)
      ∙ opened-made (node_with arena.kept (body_at arena)) (body_at arena) (slice_get arena.kept id.number) found.0 found.1

  module _ (m count : ℕ) (few : m ≤ length arena.kept) where
    nodes-trees : (ids : List NodeId) → IsWithin m count (nodes ids) → map tree ids ≡ listed (part (nodes ids))
    nodes-trees [] w = refl
    nodes-trees (id ∷ ids) w =
        ap (λ ts. tree id ∷ ts) (nodes-trees ids w.1)
        ∙ sym (listed-made (tree id) (part (nodes ids)) (made-there id (omega (arith, few, w.0))))

    elements-trees : (es : List (Option NodeId)) → IsWithin m count (elements es)
        → map tree (elements_there es) ≡ listed (part (elements es))
    elements-trees [] w = refl
    elements-trees (None ∷ es) w = elements-trees es w.1
    elements-trees (Some id ∷ es) w =
        ap (λ ts. tree id ∷ ts) (elements-trees es w.1)
        ∙ sym (listed-made (tree id) (part (elements es)) (made-there id (omega (arith, few, w.0))))

    entries-trees : (es : List Entry) → map tree (values_of_entries es) ≡ entry_values (part (entries es))
    entries-trees [] = refl
    entries-trees (e ∷ es) = ap (λ ts. tree e.value ∷ ts) (entries-trees es)

    value-trees : (x : List ℕ) (o : Option NodeId) (ds : List Declarator) → IsWithin m count (declarators (record { name = x; value = o } ∷ ds))
        → map tree (first_value ds) ≡ first_initialiser (part (declarators ds))
        → map tree (first_value (record { name = x; value = o } ∷ ds)) ≡ first_initialiser (part (declarators (record { name = x; value = o } ∷ ds)))
    value-trees x None ds w e = e
    value-trees x (Some id) ds w e =
        sym (initialiser-made (Tree.Word x) (tree id) Tree.Nil (part (declarators ds)) (made-there id (omega (arith, few, w.0.1.0))))

    declarators-trees : (ds : List Declarator) → IsWithin m count (declarators ds)
        → map tree (first_value ds) ≡ first_initialiser (part (declarators ds))
    declarators-trees [] w = refl
    declarators-trees (d ∷ ds) w = value-trees d.name d.value ds w (declarators-trees ds w.1)

    -- a node's tree by the node
    abbrev made : Node → (from to : ℕ) → Tree
    made n from to = Tree.Made (production_of n) from to (part (parts n))

    target-made : (n : Node) (u v : ℕ) → map tree (target_nodes (Some n)) ≡ target_operands (made n u v)
    target-made (node.Member e k) u v = refl
    target-made (node.Index e k) u v = refl
    target-made n u v = refl

    call-made : (n : Node) (u v : ℕ) (f : NodeId) (xs : List NodeId) → tree f ≡ made n u v → IsWithin m count (nodes xs)
        → map tree (call_nodes (Some n) f xs) ≡ operands production.Call (Tree.Cons (made n u v) (Tree.Cons (part (nodes xs)) Tree.Nil))
    call-made (node.Member e k) u v f xs g w = refl
    call-made (node.Index e k) u v f xs g w = refl
    call-made n u v f xs g w = let l = nodes-trees xs w in cc

    deleted-made : (n : Node) (u v : ℕ) (e : NodeId) → tree e ≡ made n u v
        → map tree (deleted_nodes (Some n) e) ≡ operands (production.Unary Delete) (Tree.Cons (made n u v) Tree.Nil)
    deleted-made (node.Member b k) u v e g = refl
    deleted-made (node.Index b k) u v e g = refl
    deleted-made n u v e g = ap (λ t. t ∷ []) g

    typed-made : (n : Node) (u v : ℕ) (e : NodeId) → tree e ≡ made n u v
        → map tree (typed_nodes (Some n) e) ≡ operands (production.Unary TypeOf) (Tree.Cons (made n u v) Tree.Nil)
    typed-made (node.Name t) u v e g = refl
    typed-made n u v e g = ap (λ t. t ∷ []) g

    unary-made : (o : UnaryOperator) (n : Node) (u v : ℕ) (e : NodeId) → tree e ≡ made n u v
        → map tree (unary_nodes o (Some n) e) ≡ operands (production.Unary o) (Tree.Cons (made n u v) Tree.Nil)
    unary-made TypeOf n u v e g = typed-made n u v e g
    unary-made Delete n u v e g = deleted-made n u v e g
    unary-made o n u v e g = ap (λ t. t ∷ []) g

    assigned-made : (n : Node) (u v : ℕ) (b : NodeId)
        → map tree (assigned_nodes None (Some n) b) ≡ operands (production.Assign None) (Tree.Cons (made n u v) (Tree.Cons (tree b) Tree.Nil))
    assigned-made (node.Name t) u v b = refl
    assigned-made (node.Member e k) u v b = refl
    assigned-made (node.Index e k) u v b = refl
    assigned-made n u v b = refl

    assignment-made : (o : Option BinaryOperator) (n : Node) (u v : ℕ) (b : NodeId)
        → map tree (assigned_nodes o (Some n) b) ≡ operands (production.Assign o) (Tree.Cons (made n u v) (Tree.Cons (tree b) Tree.Nil))
    assignment-made None n u v b = assigned-made n u v b
    assignment-made (Some o) n u v b = target-made n u v

    -- what holds of a node that is there holds of it where it is looked up
    looked : (id : NodeId) → id.number < length arena.kept → (P : Option Node → Tree → Type 0)
        → ((n : Node) (u v : ℕ) → tree id ≡ made n u v → P (Some n) (made n u v)) → P (look id) (tree id)
    looked id l P h =
        let found = kept_at arena.kept id.number l in
        let k = found.0 in
        let same : tree id ≡ made k.node k.from k.to =
        tree-opened (body_at arena) arena is id.number
        ∙ ap (opened (node_with arena.kept (body_at arena)) (body_at arena)) found.1 in
        subst (λ o. P (option_map (λ (k : Kept). k.node) o) (tree id)) (sym found.1)
        (subst (λ t. P (Some k.node) t) (sym same) (h k.node k.from k.to same))

    pub operands-trees : (n : Node) → IsWithin m count (parts n) → map tree (node_operands look n) ≡ operands (production_of n) (part (parts n))
    operands-trees (node.Array es) w = elements-trees es w.0
    operands-trees (node.Object es) w = entries-trees es
    operands-trees (node.Call f xs) w =
        looked f (omega (arith, few, w.0)) (λ o t. map tree (call_nodes o f xs) ≡ operands production.Call (Tree.Cons t (Tree.Cons (part (nodes xs)) Tree.Nil)))
        (λ n u v g. call-made n u v f xs g w.1.0)
    operands-trees (node.New f xs) w = ap (λ ts. tree f ∷ ts) (nodes-trees xs w.1.0)
    operands-trees (node.Postfix o e) w =
        looked e (omega (arith, few, w.0)) (λ n t. map tree (target_nodes n) ≡ target_operands t) (λ n u v g. target-made n u v)
    operands-trees (node.Prefix o e) w =
        looked e (omega (arith, few, w.0)) (λ n t. map tree (target_nodes n) ≡ target_operands t) (λ n u v g. target-made n u v)
    operands-trees (node.Unary o e) w =
        looked e (omega (arith, few, w.0)) (λ n t. map tree (unary_nodes o n e) ≡ operands (production.Unary o) (Tree.Cons t Tree.Nil))
        (λ n u v g. unary-made o n u v e g)
    operands-trees (node.Assign o a b) w =
        looked a (omega (arith, few, w.0)) (λ n t. map tree (assigned_nodes o n b) ≡ operands (production.Assign o) (Tree.Cons t (Tree.Cons (tree b) Tree.Nil)))
        (λ n u v g. assignment-made o n u v b)
    operands-trees (node.Block ss) w = nodes-trees ss w.0
    operands-trees (node.Var ds) w = declarators-trees ds w.0
    operands-trees (node.Return None) w = refl
    operands-trees (node.Return (Some e)) w = returned-made (tree e) (made-there e (omega (arith, few, w.0)))
    operands-trees (node.Try t) w = nodes-trees t.value.block w.0
    operands-trees (node.Program ss s) w = nodes-trees ss w.0
    operands-trees (node.Handler ss s) w = nodes-trees ss w.0
    operands-trees (node.Body ss s) w = nodes-trees ss w.0
    operands-trees n w = refl

  pub literal-trees : (n : Node) → node_literal n ≡ literal (production_of n) (part (parts n))
  literal-trees node.Null = refl
  literal-trees (node.Bool b) = refl
  literal-trees (node.Number z) = refl
  literal-trees (node.Text t) = refl
  literal-trees n = refl

  -- of a node that is kept
  pub kept-trees : (id : NodeId) (k : Kept) → slice_get arena.kept id.number ≡ Some k
      → map tree (node_operands look k.node) ≡ operands (production_of k.node) (part (parts k.node))
  kept-trees id k g =
      operands-trees id.number (length arena.pending) (omega (arith, slice_get_within arena.kept id.number k g)) k.node (is.nodes id.number k g)

  kept-operands : (id : NodeId) (n : Node) (o : Option Kept) → slice_get arena.kept id.number ≡ o → option_map (λ (k : Kept). k.node) o ≡ Some n
      → map tree (node_operands look n) ≡ tree_operands (tree id)
  kept-operands id n None g e = cc
  kept-operands id n (Some k) g e =
      subst (λ m. map tree (node_operands look m) ≡ tree_operands (tree id)) (same_Some k.node n e)
      (kept-trees id k g
      ∙ sym (ap tree_operands (tree-opened (body_at arena) arena is id.number ∙ ap (opened (node_with arena.kept (body_at arena)) (body_at arena)) g)))

  -- the operands of a node are those of its tree
  pub nodes-operands : (id : NodeId) (n : Node) → node_at arena id ≡ Some n → map tree (node_operands look n) ≡ tree_operands (tree id)
  nodes-operands id n e = kept-operands id n (slice_get arena.kept id.number) refl e

  kept-literal : (id : NodeId) (n : Node) (o : Option Kept) → slice_get arena.kept id.number ≡ o → option_map (λ (k : Kept). k.node) o ≡ Some n
      → node_literal n ≡ tree_literal (tree id)
  kept-literal id n None g e = cc
  kept-literal id n (Some k) g e =
      subst (λ m. node_literal m ≡ tree_literal (tree id)) (same_Some k.node n e)
      (literal-trees k.node
      ∙ sym (ap tree_literal (tree-opened (body_at arena) arena is id.number ∙ ap (opened (node_with arena.kept (body_at arena)) (body_at arena)) g)))

  pub nodes-literal : (id : NodeId) (n : Node) → node_at arena id ≡ Some n → node_literal n ≡ tree_literal (tree id)
  nodes-literal id n e = kept-literal id n (slice_get arena.kept id.number) refl e
