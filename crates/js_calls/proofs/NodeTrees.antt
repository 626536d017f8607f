-- Functions and their parts as trees of an arena.
use Rattle.std.proofs.Common.{◌≡◌, ℕ, ◌+◌, ◌-◌, ◌<◌, List, [], ◌∷◌, Option, Some, None, length}
use Rattle.std.proofs.Common.{slice_get, refl, ap, sym, ◌∙◌, subst, arith}
use Rattle.std.specs.Prelude.{IfSome}
use Rattle.std.specs.Option.{option_copied, option_map}
use Rattle.std.proofs.lemmas.Option.{same_Some}
use Rattle.js_tree.specs.Arena.{Arena, IsOrdered, function_at, node_at, scope}
use Rattle.js_tree.specs.TreeAt.{body_at, function_tree, node_with, opened, perhaps_tree, root_tree}
use Rattle.js_tree.specs.TreeAt.{tree_at}
use Rattle.js_tree.specs.TreeAt.{tree_of}
use Rattle.js_tree.specs.Trees.{Tree, named, nodes, parts, production_of, words}
use Rattle.js_tree.specs.declared.node.Node.{Node}
use Rattle.js_tree.specs.declared.node.Node.TheVariants as node
use Rattle.js_tree.specs.declared.node.NodeId.{NodeId}
use Rattle.js_tree.specs.declared.node.Scope.{Scope}
use Rattle.js_tree.specs.declared.script.Kept.{Kept}
use Rattle.js_term.proofs.ArenaTrees.{tree-opened}
use Rattle.js_stmt.specs.Syntax.{word_in}
use Rattle.js_calls.specs.Calls.{Function, function_in, scope_of, statements_in, words_in}
use Rattle.js_calls.specs.Entered.{function_as, parameter_names}
use Rattle.js_calls.specs.Texts.{IsProgram, IsProgramKept, IsProgramNode, IsRead}
use Rattle.js_calls.specs.Texts.{program_in}
use Rattle.js_tree.specs.Names.{program_scope}
use Rattle.std.specs.Global.{Box}
use Rattle.js_calls.specs.declared.function_parts.FunctionParts.{FunctionParts}

-- the tree of a node that is found
pub record NodeTree (a : Arena) (t : Tree) (n : Node) : Type 0 where
  pub from : ℕ
  pub to : ℕ
  pub is : t ≡ Tree.Made (production_of n) from to (tree_of a (parts n))

module _ (a : Arena) (ordered : IsOrdered a) where
  abbrev open_at : Option Kept → Tree
  open_at o = opened (node_with a.kept (body_at a)) (body_at a) o

  abbrev made_of : Kept → Node → Tree
  made_of k n = Tree.Made (production_of n) k.from k.to (tree_of a (parts n))

  found : (id : NodeId) (n : Node) (o : Option Kept) → slice_get a.kept id.number ≡ o
      → option_map (λ (k : Kept). k.node) o ≡ Some n → NodeTree a (tree_at a id) n
  found id n None g e = absurd cc
  found id n (Some k) g e = record {
    from = k.from;
    to = k.to;
    is = tree-opened (body_at a) a ordered id.number ∙ ap open_at g
        ∙ ap (made_of k) (same_Some k.node n e);
  }

  pub node_tree : (id : NodeId) (n : Node) → node_at a id ≡ Some n → NodeTree a (tree_at a id) n
  node_tree id n e = found id n (slice_get a.kept id.number) refl e

module _ (a : Arena) where
  words_back : (ps : List (List ℕ)) → words_in (tree_of a (words ps)) ≡ ps
  words_back [] = refl
  words_back (p ∷ ps) = ap (λ xs. p ∷ xs) (words_back ps)

  word_back : (o : Option (List ℕ)) → word_in (tree_of a (named o)) ≡ o
  word_back None = refl
  word_back (Some x) = refl

  abbrev pub function_from : Option (List ℕ) → List (List ℕ) → Tree → Function
  function_from o ps ss = record { own = o; parameters = ps; statements = ss }

  -- a function of these parts
  pub function_made : (o : Option (List ℕ)) (ps : List (List ℕ)) (ss : Tree) (k : ℕ)
      → ss ≡ statements_in (body_at a k)
      → function_from o ps ss
      ≡ function_from (word_in (tree_of a (named o))) (words_in (tree_of a (words ps)))
      (statements_in (body_at a k))
  function_made o ps ss k e =
      ap (λ x. function_from x ps ss) (sym (word_back o))
      ∙ ap (λ xs. function_from (word_in (tree_of a (named o))) xs ss) (sym (words_back ps))
      ∙ ap (function_from (word_in (tree_of a (named o))) (words_in (tree_of a (words ps)))) e

  pub declaration_made : (ps : List (List ℕ)) (ss : Tree) (k : ℕ)
      → ss ≡ statements_in (body_at a k)
      → function_from None ps ss
      ≡ function_from None (words_in (tree_of a (words ps))) (statements_in (body_at a k))
  declaration_made ps ss k e =
      ap (λ xs. function_from None xs ss) (sym (words_back ps))
      ∙ ap (function_from None (words_in (tree_of a (words ps)))) e

-- a function of these parts is that of its node
module _ (a : Arena) (p : FunctionParts) (k : ℕ) where
  pub function_is : (o : Option (List ℕ)) (ps : List (List ℕ)) → option_copied p.own ≡ o
      → parameter_names p.parameters ≡ ps
      → tree_of a (nodes p.statements.now) ≡ statements_in (body_at a k)
      → function_as a p
      ≡ function_from a (word_in (tree_of a (named o))) (words_in (tree_of a (words ps)))
      (statements_in (body_at a k))
  function_is o ps own listed e =
      ap
      (λ x. function_from a x (parameter_names p.parameters) (tree_of a (nodes p.statements.now)))
      own
      ∙ ap (λ xs. function_from a o xs (tree_of a (nodes p.statements.now))) listed
      ∙ function_made a o ps (tree_of a (nodes p.statements.now)) k e

  pub declaration_is : (ps : List (List ℕ)) → option_copied p.own ≡ None
      → parameter_names p.parameters ≡ ps
      → tree_of a (nodes p.statements.now) ≡ statements_in (body_at a k)
      → function_as a p
      ≡ function_from a None (words_in (tree_of a (words ps))) (statements_in (body_at a k))
  declaration_is ps own listed e =
      ap
      (λ x. function_from a x (parameter_names p.parameters) (tree_of a (nodes p.statements.now)))
      own
      ∙ ap (λ xs. function_from a None xs (tree_of a (nodes p.statements.now))) listed
      ∙ declaration_made a ps (tree_of a (nodes p.statements.now)) k e

-- the scope of a function that was read
pub scope_read : (a : Arena) → IsRead a → (unit : ℕ) (id : NodeId) (s : Scope) (f : Function)
    → function_at a unit ≡ Some id → Some s ≡ scope a id → f ≡ function_in (tree_at a id)
    → s ≡ scope_of f
scope_read a read unit id s f at is same =
    let held : IfSome (Some s) (λ x. x ≡ scope_of (function_in (tree_at a id))) =
    subst (λ o. IfSome o (λ x. x ≡ scope_of (function_in (tree_at a id)))) (sym is)
    (read.scopes unit id at) in
    held ∙ ap scope_of (sym same)

pub function_of_text : (a : Arena) (unit : ℕ) (id : NodeId) (f : Function)
    → function_at a unit ≡ Some id → f ≡ function_in (tree_at a id)
    → f ≡ function_in (function_tree a unit)
function_of_text a unit id f at same =
    same ∙ ap (λ o. function_in (perhaps_tree a o)) (sym at)

-- the scope of a program that was read
program_kept : (a : Arena) (o : Option Kept) (ss : List NodeId) (b : Box Scope)
    → option_map (λ (k : Kept). k.node) o ≡ Some (node.Program ss b) → IsProgramKept a o
    → b.value ≡ program_scope (tree_of a (nodes ss))
program_kept a None ss b e t = absurd t
program_kept a (Some k) ss b e t =
    subst (IsProgramNode a) (same_Some k.node (node.Program ss b) e) t

pub program_read : (a : Arena) → IsOrdered a → (id : NodeId) (ss : List NodeId) (b : Box Scope)
    → id.number + 1 ≡ length a.kept → node_at a id ≡ Some (node.Program ss b) → IsProgram a
    → b.value ≡ program_scope (program_in (root_tree a))
program_read a ordered id ss b last e t =
    let place : length a.kept - 1 ≡ id.number = omega (arith, last) in
    let here = subst (λ n. IsProgramKept a (slice_get a.kept n)) place t in
    let tree = node_tree a ordered id (node.Program ss b) e in
    program_kept a (slice_get a.kept id.number) ss b e here
    ∙ ap (λ t. program_scope (program_in t))
    (sym (ap (node_with a.kept (body_at a)) place ∙ tree.is))

kept_there : (a : Arena) (ks : List Kept) → IsProgramKept a (slice_get ks (length ks - 1))
    → 0 < length ks
kept_there a [] t = absurd t
kept_there a (k ∷ ks) t = omega arith

pub program_there : (a : Arena) → IsProgram a → 0 < length a.kept
program_there a t = kept_there a a.kept t
