-- What a node of an arena names is there, and the variable of a for-in.
use Rattle.std.proofs.Common.{◌≡◌, ℕ, ◌+◌, ◌≤◌, List, [], ◌∷◌, Option, Some, None, drop}
use Rattle.std.proofs.Common.{length, slice_get, refl, ap, sym, ◌∙◌, arith}
use Rattle.std.specs.Option.{option_map}
use Rattle.std.proofs.lemmas.Option.{same_Some}
use Rattle.js_tree.proofs.Held.{kept_at}
use Rattle.js_tree.specs.Arena.{Arena, IsOrdered, IsWithin, node_at}
use Rattle.js_tree.specs.TreeAt.{body_at, node_with, opened, tree_at, tree_of}
use Rattle.js_tree.specs.Trees.{Part, Tree, declarators, parts, production_of}
use Rattle.js_tree.specs.declared.node.Declarator.{Declarator}
use Rattle.js_tree.specs.declared.node.Node.{Node}
use Rattle.js_tree.specs.declared.node.Node.TheVariants as node
use Rattle.js_tree.specs.declared.node.NodeId.{NodeId}
use Rattle.js_tree.specs.declared.script.Kept.{Kept}
use Rattle.js_term.proofs.ArenaTrees.{tree-opened}
use Rattle.js_term.specs.declared.context.Context.{Context}
use Rattle.js_stmt.specs.CodeRows.{declarators_as, initialised_from, var_as}
use Rattle.js_stmt.specs.NodeRows.{node_row, row_by, row_in, target_name}
use Rattle.js_stmt.specs.Parts.{IsHeld, is_node}
use Rattle.js_stmt.specs.Rows.{StmtRow}
use Rattle.js_stmt.specs.Syntax.{name_of_target}
use Rattle.js_stmt.specs.Variables.{row_at, row_of_var}
use Rattle.js_stmt.specs.declared.found.Found.{Found}
use Rattle.js_stmt.specs.declared.kept.StmtKept.{StmtKept}
use Rattle.js_stmt.specs.declared.phase.StmtPhase.{StmtPhase}
use Rattle.js_stmt.specs.CodeRows.{labels_around}
use Rattle.js_stmt.proofs.ClauseLists.{initialised_node, tail_drop}

module _ (a : Arena) (is : IsOrdered a) where
  abbrev open_at : Option Kept → Tree
  open_at o = opened (node_with a.kept (body_at a)) (body_at a) o

  -- what stands within the first nodes is there
  pub held_within : (n count : ℕ) → n ≤ length a.kept → (p : Part) → IsWithin n count p
      → IsHeld a p
  held_within n count few (Part.At i) w =
      let found = kept_at a.kept i (omega (arith, few, w)) in
      ap is_node (tree-opened (body_at a) a is i ∙ ap open_at found.1)
  held_within n count few (Part.Body k) w = tt
  held_within n count few (Part.Word u) w = tt
  held_within n count few Part.Missing w = tt
  held_within n count few Part.Nil w = tt
  held_within n count few (Part.Cons p q) w =
      (held_within n count few p w.0, held_within n count few q w.1)

  within_more : (n m count : ℕ) → n ≤ m → (p : Part) → IsWithin n count p → IsWithin m count p
  within_more n m count few (Part.At i) w = omega (arith, few, w)
  within_more n m count few (Part.Body k) w = w
  within_more n m count few (Part.Word u) w = tt
  within_more n m count few Part.Missing w = tt
  within_more n m count few Part.Nil w = tt
  within_more n m count few (Part.Cons p q) w =
      (within_more n m count few p w.0, within_more n m count few q w.1)

  -- of a node that is there
  pub within_all : (n count : ℕ) → n ≤ length a.kept → (p : Part) → IsWithin n count p
      → IsWithin (length a.kept) count p
  within_all n count few p w = within_more n (length a.kept) count few p w

  named : (n : Node) (u v : ℕ)
      → name_of_target (Tree.Made (production_of n) u v (tree_of a (parts n))) ≡ target_name n
  named (node.Name x) u v = refl
  named (node.Var []) u v = refl
  named (node.Var (d ∷ ds)) u v = refl
  named n u v = refl

  named_kept : (id : NodeId) (n : Node) (o : Option Kept) → slice_get a.kept id.number ≡ o
      → option_map (λ (k : Kept). k.node) o ≡ Some n → target_name n ≡ name_of_target (tree_at a id)
  named_kept id n None g e = cc
  named_kept id n (Some k) g e =
      ap target_name (sym (same_Some k.node n e))
      ∙ sym (ap name_of_target (tree-opened (body_at a) a is id.number ∙ ap open_at g)
      ∙ named k.node k.from k.to)

  pub target_named : (id : NodeId) (n : Node) → node_at a id ≡ Some n
      → target_name n ≡ name_of_target (tree_at a id)
  target_named id n e = named_kept id n (slice_get a.kept id.number) refl e

-- the row of a node that is found
pub row_found : (a : Arena) (c : Context) (id outermost : NodeId) (n : Node) (p : StmtPhase)
    (k : StmtKept) → node_at a id ≡ Some n
    → node_row a c (labels_around a (record { outermost = outermost; statement = id })) n p k
    ≡ row_in a c id outermost p k
row_found a c id outermost n p k e =
    sym (ap
    (row_by
    (λ m. node_row a c (labels_around a (record { outermost = outermost; statement = id })) m p k)) e)

-- a `var` as it begins
module _ (a : Arena) (ds : List Declarator) where
  abbrev pub begun_at : Option Found → StmtRow
  begun_at (Some f) = var_as a (drop f.at ds)
  begun_at None = StmtRow.Free

  var_at : (x : List ℕ) (o : Option NodeId) (es : List Declarator) (i : ℕ)
      → record { name = x; value = o } ∷ es ≡ drop i ds
      → IsHeld a (declarators (record { name = x; value = o } ∷ es))
      → begun_at (initialised_from (i + 1) es) ≡ row_of_var (declarators_as a es)
      → begun_at (initialised_from i (record { name = x; value = o } ∷ es))
      ≡ row_of_var (declarators_as a (record { name = x; value = o } ∷ es))
  var_at x None es i e h rest = rest
  var_at x (Some id) es i e h rest =
      ap (λ xs. var_as a xs) (sym e)
      ∙ sym (ap row_at
      (initialised_node x (tree_at a id) Tree.Nil (declarators_as a es) h.0.1.0))

  pub var_begun : (es : List Declarator) (i : ℕ) → es ≡ drop i ds → IsHeld a (declarators es)
      → begun_at (initialised_from i es) ≡ row_of_var (declarators_as a es)
  var_begun [] i e h = refl
  var_begun (d ∷ es) i e h =
      var_at d.name d.value es i e h (var_begun es (i + 1) (tail_drop ds es d i e) h.1)
