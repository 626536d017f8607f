-- A statement goes on as its node: what the row before lends gives the row of the next phase.
use Rattle.std.proofs.Common.{◌≡◌, ℕ, Bool, true, false, List, Option, Some, None, drop}
use Rattle.std.proofs.Common.{[], ◌∷◌, is_some, unwrap_or, refl, ap, sym, ◌∙◌, ◌<◌, length, slice_get, arith}
use Rattle.std.specs.Option.{option_map}
use Rattle.js_value.specs.declared.value.Value.{Value}
use Rattle.js_heap.specs.declared.class.ScopeId.{ScopeId}
use Rattle.js_tree.proofs.Held.{kept_at}
use Rattle.js_tree.specs.Arena.{Arena, node_at}
use Rattle.js_tree.specs.TreeAt.{tree_at, tree_of}
use Rattle.js_tree.specs.Trees.{Tree, parts, production_of}
use Rattle.js_tree.specs.declared.node.Declarator.{Declarator}
use Rattle.js_tree.specs.declared.node.Guarded.{Guarded}
use Rattle.js_tree.specs.declared.node.Node.{Node}
use Rattle.js_tree.specs.declared.node.Node.TheVariants as node
use Rattle.js_tree.specs.declared.node.NodeId.{NodeId}
use Rattle.js_tree.specs.declared.script.Kept.{Kept}
use Rattle.js_term.specs.Operands.{Labels}
use Rattle.js_term.specs.declared.completion.Completion.{Completion}
use Rattle.js_term.specs.declared.context.Context.{Context}
use Rattle.js_stmt.specs.CodeRows.{at_phase, case_at, catch_in, clauses_in, declared_at}
use Rattle.js_stmt.specs.CodeRows.{clauses_as, finally_as, labels_around, loop_in, names_passed}
use Rattle.js_stmt.specs.CodeRows.{declarators_as, row_as, row_with, var_as, with_names}
use Rattle.js_stmt.specs.Lent.{IsForInOf, IsLent, IsLentOf, IsSwitchOf, IsTryOf, kept_over}
use Rattle.js_stmt.specs.Lent.{node_loop, runs_within}
use Rattle.js_stmt.specs.Make.{inner_stmt}
use Rattle.js_stmt.specs.NodeRows.{begun_row, case_row, clauses_row, declared_row}
use Rattle.js_stmt.specs.NodeRows.{kept_names_row, loop_at, loop_row, names_row, node_row, row_by}
use Rattle.js_stmt.specs.NodeRows.{row_in}
use Rattle.js_stmt.specs.Rows.{Loop, StmtRow}
use Rattle.js_stmt.specs.Shapes.{follows, has_clauses, has_names, is_for_in, is_try, is_var}
use Rattle.js_stmt.specs.Syntax.{name_of_target}
use Rattle.js_stmt.specs.Variables.{Initialised, first_initialised, row_at}
use Rattle.js_stmt.specs.declared.kept.StmtKept.{StmtKept}
use Rattle.js_stmt.specs.declared.kept.StmtKept.TheVariants as kept
use Rattle.js_stmt.specs.declared.phase.StmtPhase.{StmtPhase}
use Rattle.js_stmt.specs.declared.phase.StmtPhase.TheVariants as phase
use Rattle.js_stmt.specs.declared.row.ForInParts.{ForInParts}
use Rattle.js_stmt.specs.declared.row.Labelling.{Labelling}
use Rattle.js_stmt.specs.declared.row.LoopParts.{LoopParts}
use Rattle.js_stmt.specs.declared.row.StmtRow.{StmtRow as CodeRow}
use Rattle.js_stmt.specs.declared.row.StmtRow.TheVariants as code
use Rattle.js_stmt.specs.declared.row.SwitchParts.{SwitchParts}

-- c, d: where a body runs; no phase is another's that has a context of its own.
module _ (a : Arena) (c d : Context) (ls : Labelling) where
  -- the row of a node that may be there
  abbrev row_of : Option Node → StmtPhase → StmtKept → StmtRow
  row_of o p k = row_by (λ n. node_row a d (labels_around a ls) n p k) o

  -- a for-in behind so many names
  named_row : (k : StmtKept) (v : Value) (xs : List (List ℕ)) (o : Option Node) (f : ForInParts)
      → IsForInOf ls a o f → k ≡ kept.Names v xs → (i : ℕ)
      → StmtRow.ForInKeys v (drop i xs) f.name.now (tree_at a f.body)
      (labels_around a f.labelling) ≡ row_of o (phase.Names i) k
  named_row k v xs (Some (node.ForIn x e s)) f lent is i =
      ap (λ t. StmtRow.ForInKeys v (drop i xs) f.name.now t (labels_around a f.labelling))
      (ap (tree_at a) lent.1)
      ∙ ap (λ l. StmtRow.ForInKeys v (drop i xs) f.name.now (tree_at a s) (labels_around a l))
      lent.2
      ∙ sym (ap (λ y. kept_names_row a (labels_around a ls) i y s (kept.Names v xs)) lent.0)
      ∙ sym (ap (kept_names_row a (labels_around a ls) i (name_of_target (tree_at a x)) s) is)
  named_row k v xs o f lent is i = absurd lent

  module _ (k : StmtKept) where
    declared : (i : ℕ) (o : Option Node) (r : CodeRow) → IsLentOf a ls o k r → is_var r ≡ true
        → row_as a c (declared_at i r) ≡ row_of o (phase.Declared i) k
    declared i o (code.Var ds j) lent is = sym (ap (λ n. row_of n (phase.Declared i) k) lent)
    declared i o r lent is = cc

    loop_found : (o : Option Node) (r : CodeRow) → IsLentOf a ls o k r
        → is_some (loop_in r) ≡ true → loop_in r ≡ node_loop ls o
    loop_found o (code.DoWhile l) lent is = sym lent
    loop_found o (code.While l) lent is = sym lent
    loop_found o (code.For l) lent is = sym lent
    loop_found o (code.LoopStart l) lent is = sym lent
    loop_found o (code.LoopTest l) lent is = sym lent
    loop_found o (code.LoopBody l) lent is = sym lent
    loop_found o (code.LoopUpdate l) lent is = sym lent
    loop_found o r lent is = cc

    start_of : (o : Option Node)
        → row_as a c (row_with code.LoopStart (node_loop ls o)) ≡ row_of o phase.LoopStart k
    start_of None = refl
    start_of (Some (node.DoWhile s e)) = refl
    start_of (Some (node.While e s)) = refl
    start_of (Some (node.For x y z s)) = refl
    start_of (Some n) = refl

    test_of : (o : Option Node)
        → row_as a c (row_with code.LoopTest (node_loop ls o)) ≡ row_of o phase.LoopTest k
    test_of None = refl
    test_of (Some (node.DoWhile s e)) = refl
    test_of (Some (node.While e s)) = refl
    test_of (Some (node.For x y z s)) = refl
    test_of (Some n) = refl

    body_of : (o : Option Node)
        → row_as a c (row_with code.LoopBody (node_loop ls o)) ≡ row_of o phase.LoopBody k
    body_of None = refl
    body_of (Some (node.DoWhile s e)) = refl
    body_of (Some (node.While e s)) = refl
    body_of (Some (node.For x y z s)) = refl
    body_of (Some n) = refl

    update_of : (o : Option Node)
        → row_as a c (row_with code.LoopUpdate (node_loop ls o)) ≡ row_of o phase.LoopUpdate k
    update_of None = refl
    update_of (Some (node.DoWhile s e)) = refl
    update_of (Some (node.While e s)) = refl
    update_of (Some (node.For x y z s)) = refl
    update_of (Some n) = refl

    names : (i : ℕ) (o : Option Node) (r : CodeRow) → IsLentOf a ls o k r → has_names r ≡ true
        → row_as a c (names_passed i r) ≡ row_of o (phase.Names i) k
    names i o (code.ForInNames f v xs j) lent is =
        named_row k v.now xs.now o f lent.0 lent.1 i
    names i o r lent is = cc

    case_of : (o : Option Node) (s : SwitchParts) → IsSwitchOf ls o s → (i : ℕ)
        → row_as a c (code.Case s i) ≡ row_of o (phase.Case i) k
    case_of (Some (node.Switch e cs)) s lent i =
        ap (λ xs. StmtRow.Case (clauses_as a xs) (clauses_as a (drop i xs))
        (labels_around a s.labelling)) lent.0
        ∙ ap (λ l. StmtRow.Case (clauses_as a cs) (clauses_as a (drop i cs)) (labels_around a l))
        lent.1
    case_of o s lent i = absurd lent

    cased : (i : ℕ) (o : Option Node) (r : CodeRow) → IsLentOf a ls o k r
        → has_clauses r ≡ true → row_as a c (case_at i r) ≡ row_of o (phase.Case i) k
    cased i o (code.Switch s) lent is = case_of o s lent i
    cased i o (code.Case s j) lent is = case_of o s lent i
    cased i o r lent is = cc

    clauses_of : (o : Option Node) (s : SwitchParts) → IsSwitchOf ls o s
        → row_as a c (code.SwitchBody s.labelling) ≡ row_of o phase.Clauses k
    clauses_of (Some (node.Switch e cs)) s lent =
        ap (λ l. StmtRow.SwitchBody (labels_around a l)) lent.1
    clauses_of o s lent = absurd lent

    claused : (o : Option Node) (r : CodeRow) → IsLentOf a ls o k r → has_clauses r ≡ true
        → row_as a c (clauses_in r) ≡ row_of o phase.Clauses k
    claused o (code.Switch s) lent is = clauses_of o s lent
    claused o (code.Case s j) lent is = clauses_of o s lent
    claused o r lent is = cc

    catch_of : (o : Option Node) (g : Guarded) → IsTryOf o g → (s : ScopeId)
        → StmtRow.Catch s (finally_as a g) ≡ row_of o (phase.Catch s) k
    catch_of (Some (node.Try b)) g lent s = ap (λ h. StmtRow.Catch s (finally_as a h)) (sym lent)
    catch_of o g lent s = absurd lent

    caught : (s : ScopeId) (o : Option Node) (r : CodeRow) → IsLentOf a ls o k r
        → is_try r ≡ true → row_as a c (catch_in s r) ≡ row_of o (phase.Catch s) k
    caught s o (code.Try g) lent is = catch_of o g.now lent s
    caught s o r lent is = cc

    -- in each phase in which the row goes on
    later : (o : Option Node) (r : CodeRow) (p : StmtPhase) → IsLentOf a ls o k r
        → follows r p ≡ true → row_as a c (at_phase r p) ≡ row_of o p k
    later o r phase.Begun lent is = cc
    later o r (phase.Declared i) lent is = declared i o r lent is
    later o r phase.LoopStart lent is =
        ap (λ l. row_as a c (row_with code.LoopStart l)) (loop_found o r lent is) ∙ start_of o
    later o r phase.LoopTest lent is =
        ap (λ l. row_as a c (row_with code.LoopTest l)) (loop_found o r lent is) ∙ test_of o
    later o r phase.LoopBody lent is =
        ap (λ l. row_as a c (row_with code.LoopBody l)) (loop_found o r lent is) ∙ body_of o
    later o r phase.LoopUpdate lent is =
        ap (λ l. row_as a c (row_with code.LoopUpdate l)) (loop_found o r lent is) ∙ update_of o
    later o r (phase.Names i) lent is = names i o r lent is
    later o r (phase.Case i) lent is = cased i o r lent is
    later o r phase.Clauses lent is = claused o r lent is
    later o r (phase.Catch s) lent is = caught s o r lent is
    later o r phase.Finally lent is = cc
    later o r phase.Body lent is = cc

  -- with its names a for-in stands before the first of them
  named_first : (k : StmtKept) (o : Option Node) (r : CodeRow) (v : Value) (xs : List (List ℕ))
      → IsLentOf a ls o k r → is_for_in r ≡ true
      → with_names a c r v xs ≡ row_of o (phase.Names 0) (kept.Names v xs)
  named_first k o (code.ForIn f) v xs lent is = named_row (kept.Names v xs) v xs o f lent refl 0
  named_first k o r v xs lent is = cc

pub goes_on : (a : Arena) (c d : Context) (id outermost : NodeId) (r : CodeRow) (p : StmtPhase)
    (k : StmtKept) → IsLent a id outermost k r → follows r p ≡ true
    → row_as a c (at_phase r p) ≡ row_in a d id outermost p k
goes_on a c d id outermost r p k lent is =
    later a c d (record { outermost = outermost; statement = id }) k (node_at a id) r p lent is

pub names_begin : (a : Arena) (c d : Context) (id outermost : NodeId) (r : CodeRow)
    (k : StmtKept) (v : Value) (xs : List (List ℕ)) → IsLent a id outermost k r
    → is_for_in r ≡ true
    → with_names a c r v xs ≡ row_in a d id outermost (phase.Names 0) (kept.Names v xs)
names_begin a c d id outermost r k v xs lent is =
    named_first a c d (record { outermost = outermost; statement = id }) k (node_at a id) r v xs
    lent is

-- what is kept over `finally`
kept_finally : (a : Arena) (c : Context) (ls : Labels) (n : Node) (o : Option Completion)
    → node_row a c ls n phase.Finally (kept_over o) ≡ StmtRow.Finally o
kept_finally a c ls n None = refl
kept_finally a c ls n (Some k) = refl

pub finally_begins : (a : Arena) (d : Context) (id outermost : NodeId) (o : Option Completion)
    → id.number < length a.kept
    → StmtRow.Finally o ≡ row_in a d id outermost phase.Finally (kept_over o)
finally_begins a d id outermost o there =
    let ls : Labels = labels_around a (record { outermost = outermost; statement = id }) in
    let found = kept_at a.kept id.number there in
    sym (ap (λ m. row_by (λ n. node_row a d ls n phase.Finally (kept_over o))
    (option_map (λ (x : Kept). x.node) m)) found.1 ∙ kept_finally a d ls found.0.node o)

-- e: where the node stands
module _ (a : Arena) (c : Context) (ls : Labels) (e : Context) where
  var_stays : (ds : List Declarator) → inner_stmt (var_as a ds) e ≡ e
  var_stays [] = refl
  var_stays (d ∷ ds) = refl

  declared_stays : (o : Option Initialised) → inner_stmt (row_at o) e ≡ e
  declared_stays None = refl
  declared_stays (Some d) = refl

  for_in_stays : (s : Tree) (x : Option (List ℕ))
      → inner_stmt (unwrap_or (option_map (λ k. StmtRow.ForIn k s ls) x) StmtRow.Free) e ≡ e
  for_in_stays s None = refl
  for_in_stays s (Some x) = refl

  begun_stays : (n : Node) → inner_stmt (begun_row a ls n) e ≡ e
  begun_stays (node.Var ds) = declared_stays (first_initialised (declarators_as a ds))
  begun_stays (node.ForIn x v s) = for_in_stays (tree_at a s) (name_of_target (tree_at a x))
  begun_stays n = refl

  at_declarator : (i : ℕ) (n : Node) → inner_stmt (declared_row a i n) e ≡ e
  at_declarator i (node.Var ds) = var_stays (drop i ds)
  at_declarator i n = refl

  start_stays : (l : Option Loop) → inner_stmt (loop_row phase.LoopStart l) e ≡ e
  start_stays None = refl
  start_stays (Some l) = refl

  test_stays : (l : Option Loop) → inner_stmt (loop_row phase.LoopTest l) e ≡ e
  test_stays None = refl
  test_stays (Some l) = refl

  body_stays : (l : Option Loop) → inner_stmt (loop_row phase.LoopBody l) e ≡ e
  body_stays None = refl
  body_stays (Some l) = refl

  update_stays : (l : Option Loop) → inner_stmt (loop_row phase.LoopUpdate l) e ≡ e
  update_stays None = refl
  update_stays (Some l) = refl

  kept_stays : (i : ℕ) (x : Option (List ℕ)) (s : NodeId) (k : StmtKept)
      → inner_stmt (kept_names_row a ls i x s k) e ≡ e
  kept_stays i None s (kept.Names v xs) = refl
  kept_stays i (Some x) s (kept.Names v xs) = refl
  kept_stays i x s k = refl

  names_stay : (i : ℕ) (n : Node) (k : StmtKept) → inner_stmt (names_row a ls i n k) e ≡ e
  names_stay i (node.ForIn x v s) k = kept_stays i (name_of_target (tree_at a x)) s k
  names_stay i n k = refl

  case_stays : (i : ℕ) (n : Node) → inner_stmt (case_row a ls i n) e ≡ e
  case_stays i (node.Switch v cs) = refl
  case_stays i n = refl

  clauses_stay : (n : Node) → inner_stmt (clauses_row ls n) e ≡ e
  clauses_stay (node.Switch v cs) = refl
  clauses_stay n = refl

  stays : (n : Node) (p : StmtPhase) (k : StmtKept) → runs_within p ≡ false
      → inner_stmt (node_row a c ls n p k) e ≡ e
  stays n phase.Begun k is = begun_stays n
  stays n (phase.Declared i) k is = at_declarator i n
  stays n phase.LoopStart k is = start_stays (loop_at a ls n)
  stays n phase.LoopTest k is = test_stays (loop_at a ls n)
  stays n phase.LoopBody k is = body_stays (loop_at a ls n)
  stays n phase.LoopUpdate k is = update_stays (loop_at a ls n)
  stays n (phase.Names i) k is = names_stay i n k
  stays n (phase.Case i) k is = case_stays i n
  stays n phase.Clauses k is = clauses_stay n
  stays n (phase.Catch s) k is = cc
  stays n phase.Finally k is = refl
  stays n phase.Body k is = cc

  stays_by : (o : Option Node) (p : StmtPhase) (k : StmtKept) → runs_within p ≡ false
      → inner_stmt (row_by (λ n. node_row a c ls n p k) o) e ≡ e
  stays_by None p k is = refl
  stays_by (Some n) p k is = stays n p k is

pub stands : (a : Arena) (c d : Context) (id outermost : NodeId) (p : StmtPhase) (k : StmtKept)
    → runs_within p ≡ false → inner_stmt (row_in a c id outermost p k) d ≡ d
stands a c d id outermost p k is =
    stays_by a c (labels_around a (record { outermost = outermost; statement = id })) d
    (node_at a id) p k is

-- a catch that the row goes on in runs in its scope
catch_scope : (a : Arena) (c d : Context) (s : ScopeId) (r : CodeRow) → is_try r ≡ true
    → inner_stmt (row_as a c (catch_in s r)) d
    ≡ record { text = d.text; scope = Some s; this = d.this }
catch_scope a c d s (code.Try g) is = refl
catch_scope a c d s r is = cc

pub catch_runs : (a : Arena) (c d : Context) (id outermost : NodeId) (r : CodeRow) (s : ScopeId)
    (k : StmtKept) → IsLent a id outermost k r → follows r (phase.Catch s) ≡ true
    → inner_stmt (row_in a c id outermost (phase.Catch s) k) d
    ≡ record { text = d.text; scope = Some s; this = d.this }
catch_runs a c d id outermost r s k lent is =
    sym (ap (λ x. inner_stmt x d) (goes_on a c c id outermost r (phase.Catch s) k lent is))
    ∙ catch_scope a c d s r is
