-- Searches in lists of declarators and clauses, and what they find in trees.
use Rattle.std.proofs.Common.{◌≡◌, ℕ, zero, suc, ◌+◌, ◌<◌, ◌≤◌, List, [], ◌∷◌, ◌++◌, true, false}
use Rattle.std.proofs.Common.{Option, Some, None, drop, get_or, length, take, refl, ap, sym, ◌∙◌}
use Rattle.std.proofs.Common.{append_assoc, arith, drop-drop, slice_get}
use Rattle.std.specs.Option.{option_map}
use Rattle.std.proofs.lemmas.Option.{same_Some}
use Rattle.js_value.specs.Same.{same}
use Rattle.js_value.specs.declared.value.Value.{Value}
use Rattle.std.proofs.lemmas.List.{append-nil, drop_all, drop_more, map-append, take_more}
use Rattle.js_tree.specs.Arena.{Arena}
use Rattle.js_tree.specs.TreeAt.{tree_at, tree_of}
use Rattle.js_tree.specs.Trees.{Tree, cases, declarators, nodes}
use Rattle.js_tree.specs.declared.node.Case.{Case}
use Rattle.js_tree.specs.declared.node.Declarator.{Declarator}
use Rattle.js_tree.specs.declared.node.NodeId.{NodeId}
use Rattle.js_term.proofs.Pushes.{twice}
use Rattle.js_term.specs.ArenaOperands.{as_operands}
use Rattle.js_term.specs.Evaluation.{Evaluation, and_then}
use Rattle.js_term.specs.Operands.{Labels, listed}
use Rattle.js_term.specs.declared.context.Context.{Context}
use Rattle.js_term.specs.declared.operands.Operand.TheVariants as operand
use Rattle.js_stmt.specs.CodeRows.{clause_nodes, clauses_as, declarators_as, default_from}
use Rattle.js_stmt.specs.CodeRows.{default_or, fresh, operand_tree}
use Rattle.js_stmt.specs.CodeRows.{initialised_from, initialised_or, operand_trees, tested_from}
use Rattle.js_stmt.specs.CodeRows.{var_as}
use Rattle.js_stmt.specs.Made.{Progress}
use Rattle.js_stmt.specs.Made.Progress.{Finishes, GoesOn}
use Rattle.js_stmt.specs.Parts.{IsHeld, is_node}
use Rattle.js_stmt.specs.Rows.StmtRow.{SwitchBody}
use Rattle.js_stmt.specs.Steps.{pair}
use Rattle.js_stmt.specs.Switches.{Tested, at_clause, behind_first, case_row, first_tested}
use Rattle.js_stmt.specs.Switches.{from_default, into_statements, statements_of}
use Rattle.js_stmt.specs.Variables.{first_initialised, next_declared}
use Rattle.js_stmt.specs.declared.found.Found.{Found}
use Rattle.js_stmt.proofs.Lists.{chosen, other, statements_held}

-- by one place of a list
pub tested_more : (ks : List Case) (i : ℕ) (k : Case) → i < length ks
    → tested_from i (drop i ks)
    ≡ initialised_or i (get_or ks i k).test (tested_from (i + 1) (drop (i + 1) ks))
tested_more ks i k l = ap (tested_from i) (drop_more ks i k l)

pub tested_end : (ks : List Case) (i : ℕ) → length ks ≤ i → tested_from i (drop i ks) ≡ None
tested_end ks i l = ap (tested_from i) (drop_all i ks l)

pub initialised_more : (ds : List Declarator) (i : ℕ) (d : Declarator) → i < length ds
    → initialised_from i (drop i ds)
    ≡ initialised_or i (get_or ds i d).value (initialised_from (i + 1) (drop (i + 1) ds))
initialised_more ds i d l = ap (initialised_from i) (drop_more ds i d l)

pub initialised_end : (ds : List Declarator) (i : ℕ) → length ds ≤ i
    → initialised_from i (drop i ds) ≡ None
initialised_end ds i l = ap (initialised_from i) (drop_all i ds l)

pub default_more : (ks : List Case) (i : ℕ) (k : Case) → i < length ks
    → default_from i (drop i ks)
    ≡ default_or i (get_or ks i k).test (default_from (i + 1) (drop (i + 1) ks))
default_more ks i k l = ap (default_from i) (drop_more ks i k l)

pub default_end : (ks : List Case) (i : ℕ) → length ks ≤ i → default_from i (drop i ks) ≡ None
default_end ks i l = ap (default_from i) (drop_all i ks l)

clauses-append : (ks : List Case) (k : Case)
    → clause_nodes (ks ++ k ∷ []) ≡ clause_nodes ks ++ k.statements
clauses-append [] k = append-nil k.statements
clauses-append (j ∷ ks) k =
    ap (λ ids. j.statements ++ ids) (clauses-append ks k)
    ∙ sym (append_assoc j.statements (clause_nodes ks) k.statements)

-- the statements of one more clause
pub clauses_stepped : (ks : List Case) (i : ℕ) (k : Case) (e o : Evaluation) → i < length ks
    → k ≡ get_or ks i k → o ≡ and_then (as_operands (clause_nodes (take i ks))) e
    → and_then (as_operands k.statements) o
    ≡ and_then (as_operands (clause_nodes (take (i + 1) ks))) e
clauses_stepped ks i k e o l is so_far =
    let all : clause_nodes (take (i + 1) ks) ≡ clause_nodes (take i ks) ++ k.statements =
    ap clause_nodes (take_more ks i k l ∙ ap (λ j. take i ks ++ j ∷ []) (sym is))
    ∙ clauses-append (take i ks) k in
    ap (and_then (as_operands k.statements)) so_far
    ∙ twice (as_operands (clause_nodes (take i ks))) (as_operands k.statements) e
    ∙ ap (λ xs. and_then xs e)
    (sym (map-append operand.Node (clause_nodes (take i ks)) k.statements)
    ∙ ap as_operands (sym all))

-- the clauses behind the first of these
behind_suc : (a : Arena) (ks : List Case) (i : ℕ)
    → clauses_as a (drop (suc i) ks) ≡ behind_first (clauses_as a (drop i ks))
behind_suc a [] zero = refl
behind_suc a [] (suc i) = refl
behind_suc a (k ∷ ks) zero = refl
behind_suc a (k ∷ ks) (suc i) = behind_suc a ks i

pub behind_more : (a : Arena) (ks : List Case) (i : ℕ)
    → clauses_as a (drop (i + 1) ks) ≡ behind_first (clauses_as a (drop i ks))
behind_more a ks i =
    let one : i + 1 ≡ suc i = omega arith in
    ap (λ n. clauses_as a (drop n ks)) one ∙ behind_suc a ks i

-- the clauses behind the first of those from a place on
pub tail_drop : {X : Type 0} (xs ys : List X) (y : X) (i : ℕ) → y ∷ ys ≡ drop i xs
    → ys ≡ drop (i + 1) xs
tail_drop xs ys y i e = ap (drop 1) e ∙ drop-drop 1 i xs

pub held_drop : (a : Arena) (ks : List Case) (i : ℕ) → IsHeld a (cases ks)
    → IsHeld a (cases (drop i ks))
held_drop a ks zero h = h
held_drop a [] (suc i) h = tt
held_drop a (k ∷ ks) (suc i) h = held_drop a ks i h.1

default_node : (t r ts : Tree) → is_node t ≡ true
    → from_default (Tree.Cons (Tree.Cons t r) ts) ≡ from_default ts
default_node (Tree.Made p u v us) r ts e = refl
default_node t r ts e = cc

tested_node : (t r ts : Tree) → is_node t ≡ true
    → first_tested (Tree.Cons (Tree.Cons t r) ts)
    ≡ Some (record { test = t; clauses = Tree.Cons (Tree.Cons t r) ts })
tested_node (Tree.Made p u v us) r ts e = refl
tested_node t r ts e = cc

module _ (a : Arena) (ks : List Case) where
  abbrev from_place : ℕ → Tree
  from_place i = clauses_as a (drop i ks)

  abbrev tested_at : Found → Tested
  tested_at f = record { test = tree_at a f.node; clauses = from_place f.at }

  default_at : (o : Option NodeId) (ss : List NodeId) (js : List Case) (i : ℕ)
      → record { test = o; statements = ss } ∷ js ≡ drop i ks
      → IsHeld a (cases (record { test = o; statements = ss } ∷ js))
      → from_default (clauses_as a js) ≡ option_map from_place (default_from (i + 1) js)
      → from_default (clauses_as a (record { test = o; statements = ss } ∷ js))
      ≡ option_map from_place (default_from i (record { test = o; statements = ss } ∷ js))
  default_at None ss js i e h rest = ap (λ xs. Some (clauses_as a xs)) e
  default_at (Some id) ss js i e h rest =
      default_node (tree_at a id) _ (clauses_as a js) h.0.0 ∙ rest

  -- the place of `default` in the tree
  pub default_tree : (js : List Case) (i : ℕ) → js ≡ drop i ks → IsHeld a (cases js)
      → from_default (clauses_as a js) ≡ option_map from_place (default_from i js)
  default_tree [] i e h = refl
  default_tree (j ∷ js) i e h =
      default_at j.test j.statements js i e h (default_tree js (i + 1) (tail_drop ks js j i e) h.1)

  case_at : (o : Option NodeId) (ss : List NodeId) (js : List Case) (i : ℕ)
      → record { test = o; statements = ss } ∷ js ≡ drop i ks
      → IsHeld a (cases (record { test = o; statements = ss } ∷ js))
      → first_tested (clauses_as a js) ≡ option_map tested_at (tested_from (i + 1) js)
      → first_tested (clauses_as a (record { test = o; statements = ss } ∷ js))
      ≡ option_map tested_at (tested_from i (record { test = o; statements = ss } ∷ js))
  case_at None ss js i e h rest = rest
  case_at (Some id) ss js i e h rest =
      tested_node (tree_at a id) _ (clauses_as a js) h.0.0
      ∙ ap (λ xs. Some (record { test = tree_at a id; clauses = clauses_as a xs })) e

  -- the first clause with a test in the tree
  pub tested_tree : (js : List Case) (i : ℕ) → js ≡ drop i ks → IsHeld a (cases js)
      → first_tested (clauses_as a js) ≡ option_map tested_at (tested_from i js)
  tested_tree [] i e h = refl
  tested_tree (j ∷ js) i e h =
      case_at j.test j.statements js i e h (tested_tree js (i + 1) (tail_drop ks js j i e) h.1)

module _ (a : Arena) (c : Context) where
  clause_trees : (ks : List Case) → IsHeld a (cases ks)
      → operand_trees a c (as_operands (clause_nodes ks)) ≡ statements_of (clauses_as a ks)
  clause_trees [] h = refl
  clause_trees (k ∷ ks) h =
      ap (operand_trees a c) (map-append operand.Node k.statements (clause_nodes ks))
      ∙ map-append (operand_tree a c) (as_operands k.statements) (as_operands (clause_nodes ks))
      ∙ ap (λ ts. ts ++ operand_trees a c (as_operands (clause_nodes ks)))
      (statements_held a c k.statements h.0.1.0)
      ∙ ap (λ ts. listed (tree_of a (nodes k.statements)) ++ ts) (clause_trees ks h.1)

  -- into the statements of these clauses
  pub statements_entered : (ls : Labels) (ks : List Case) (e : Evaluation)
      → e ≡ fresh (clause_nodes ks) → IsHeld a (cases ks)
      → GoesOn (SwitchBody ls) e.done (operand_trees a c e.todo)
      ≡ into_statements ls (clauses_as a ks)
  statements_entered ls ks e f h =
      ap (λ (e : Evaluation). GoesOn (SwitchBody ls) e.done (operand_trees a c e.todo)) f
      ∙ ap (GoesOn (SwitchBody ls) []) (clause_trees ks h)

-- a clause whose value is the same, and one whose value is another
pub case_same : (cs left : Tree) (ls : Labels) (p : Option (Value × Value))
    → Some true ≡ option_map (λ vs. same vs.0 vs.1) p
    → into_statements ls left ≡ case_row cs left ls p
case_same cs left ls None e = cc
case_same cs left ls (Some vs) e =
    chosen (same vs.0 vs.1) (into_statements ls left)
    (at_clause cs ls vs.0 (first_tested (behind_first left))) (sym (same_Some true (same vs.0 vs.1) e))

pub case_other : (cs left : Tree) (ls : Labels) (done : List Value)
    → Some false ≡ option_map (λ (vs : Value × Value). same vs.0 vs.1) (pair done)
    → (v : Value) × (slice_get done 0 ≡ Some v)
    × (at_clause cs ls v (first_tested (behind_first left)) ≡ case_row cs left ls (pair done))
case_other cs left ls [] e = cc
case_other cs left ls (u ∷ []) e = cc
case_other cs left ls (u ∷ t ∷ []) e = (
  u,
  refl,
  other (same u t) (into_statements ls left)
      (at_clause cs ls u (first_tested (behind_first left))) (sym (same_Some false (same u t) e)),
)
case_other cs left ls (u ∷ t ∷ x ∷ vs) e = cc

-- the next initialiser, in trees
pub initialised_node : (x : List ℕ) (t r ts : Tree) → is_node t ≡ true
    → first_initialised (Tree.Cons (Tree.Cons (Tree.Word x) (Tree.Cons t r)) ts)
    ≡ Some (record { name = x; value = t; rest = ts })
initialised_node x (Tree.Made p u v us) r ts e = refl
initialised_node x t r ts e = cc

module _ (a : Arena) (ds : List Declarator) where
  abbrev pub declared_progress : Option Found → Progress
  declared_progress (Some f) = GoesOn (var_as a (drop f.at ds)) [] (tree_at a f.node ∷ [])
  declared_progress None = Finishes

  declared_at : (x : List ℕ) (o : Option NodeId) (es : List Declarator) (i : ℕ)
      → record { name = x; value = o } ∷ es ≡ drop i ds
      → IsHeld a (declarators (record { name = x; value = o } ∷ es))
      → declared_progress (initialised_from (i + 1) es)
      ≡ next_declared (first_initialised (declarators_as a es))
      → declared_progress (initialised_from i (record { name = x; value = o } ∷ es))
      ≡ next_declared (first_initialised (declarators_as a (record { name = x; value = o } ∷ es)))
  declared_at x None es i e h rest = rest
  declared_at x (Some id) es i e h rest =
      ap (λ xs. GoesOn (var_as a xs) [] (tree_at a id ∷ [])) (sym e)
      ∙ ap next_declared (sym (initialised_node x (tree_at a id) _ (declarators_as a es) h.0.1.0))

  pub declared_tree : (es : List Declarator) (i : ℕ) → es ≡ drop i ds
      → IsHeld a (declarators es)
      → declared_progress (initialised_from i es)
      ≡ next_declared (first_initialised (declarators_as a es))
  declared_tree [] i e h = refl
  declared_tree (d ∷ es) i e h =
      declared_at d.name d.value es i e h (declared_tree es (i + 1) (tail_drop ds es d i e) h.1)

pub held_declarators : (a : Arena) (ds : List Declarator) (i : ℕ) → IsHeld a (declarators ds)
    → IsHeld a (declarators (drop i ds))
held_declarators a ds zero h = h
held_declarators a [] (suc i) h = tt
held_declarators a (d ∷ ds) (suc i) h = held_declarators a ds i h.1
