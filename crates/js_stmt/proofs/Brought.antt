-- What a step names is there: it names no more than its row and its operands do.
use Rattle.std.proofs.Common.{◌≡◌, ℕ, ◌<◌, List, [], ◌∷◌, ◌++◌, Bool, true, false, Option}
use Rattle.std.proofs.Common.{Some, None, drop}
use Rattle.std.proofs.Common.{length, sym, subst}
use Rattle.std.specs.Prelude.{if◌then◌else◌}
use Rattle.std.specs.Option.{option_copied}
use Rattle.js_value.specs.Image.{to_boolean}
use Rattle.js_value.specs.Same.{same}
use Rattle.js_value.specs.declared.value.Value.{Value}
use Rattle.js_value.specs.declared.value.Value.TheVariants as value
use Rattle.js_heap.specs.Chains.{IsBelow}
use Rattle.js_heap.specs.Closed.{IsThere}
use Rattle.js_heap.specs.World.{World}
use Rattle.js_heap.specs.declared.class.ScopeId.{ScopeId}
use Rattle.js_host.specs.Names.{option_names}
use Rattle.js_host.specs.There.{AreThere}
use Rattle.js_reference.specs.Answers.{answered_names}
use Rattle.js_reference.specs.Callables.{is_object}
use Rattle.js_reference.specs.declared.answered.Answered.{Answered}
use Rattle.js_reference.specs.declared.answered.Answered.TheVariants as answered
use Rattle.js_term.specs.Evaluation.{Evaluation}
use Rattle.js_term.specs.Operands.{Labels}
use Rattle.js_term.specs.declared.completion.Completion.{Completion}
use Rattle.js_term.specs.declared.completion.Completion.TheVariants as completion
use Rattle.js_term.specs.declared.context.Context.{Context}
use Rattle.js_tree.specs.Arena.{Arena}
use Rattle.js_tree.specs.Trees.{Tree}
use Rattle.js_tree.specs.declared.node.Declarator.{Declarator}
use Rattle.js_stmt.specs.Bodies.{body_meets, result_of}
use Rattle.js_stmt.specs.CodeRows.{ended_as}
use Rattle.js_stmt.specs.ForIn.{for_in_row}
use Rattle.js_stmt.specs.CodeRows.{after_answer, at_phase, catch_in, completion_names, kept_names}
use Rattle.js_stmt.specs.CodeRows.{labels_around, clauses_as}
use Rattle.js_stmt.specs.CodeRows.{loop_as, move_names, progress_of, row_as, row_names}
use Rattle.js_stmt.specs.CodeRows.{scope_entered}
use Rattle.js_stmt.specs.CodeRows.{var_as, with_names, finally_as}
use Rattle.js_stmt.specs.Jumps.{is_break_of, return_row, throw_row}
use Rattle.js_stmt.specs.Loops as loops
use Rattle.js_stmt.specs.Made.{Progress}
use Rattle.js_stmt.specs.Made.Progress.{Becomes, Completes, Finishes, Gives, GoesOn}
use Rattle.js_stmt.specs.Make.{control_meets, control_row}
use Rattle.js_stmt.specs.Rows.{Loop, StmtRow}
use Rattle.js_stmt.specs.Steps.{only, pair, takes}
use Rattle.js_stmt.specs.Switches as switches
use Rattle.js_stmt.specs.Tries.{finally_row, into_finally}
use Rattle.js_stmt.specs.Variables.{Initialised, if_row, next_declared}
use Rattle.js_stmt.specs.declared.phase.StmtPhase.{StmtPhase}
use Rattle.js_stmt.specs.declared.phase.StmtPhase.TheVariants as phase
use Rattle.js_stmt.specs.declared.row.StmtRow.{StmtRow as CodeRow}
use Rattle.js_stmt.specs.declared.row.StmtRow.TheVariants as code
use Rattle.js_stmt.specs.declared.stmt_move.StmtMove.{StmtMove}
use Rattle.js_stmt.specs.declared.stmt_move.StmtMove.TheVariants as move
use Rattle.js_stmt.proofs.MoveRows.{back_there}
use Rattle.std.specs.Prelude.{slice_get}

-- what a node goes on as, over these values: none goes on as a row without a step
abbrev pub RowThere : World → StmtRow → List Value → Type 0
RowThere w StmtRow.Free vs = ⊥
RowThere w (StmtRow.ForInKeys v ks x b ls) vs = AreThere w (v ∷ vs)
RowThere w (StmtRow.Finally k) vs = AreThere w (kept_names k vs)
RowThere w (StmtRow.Body c n) vs = AreThere w (option_names n vs)
RowThere w (StmtRow.Catch s f) vs = (s.number < length w.scopes) × AreThere w vs
RowThere w r vs = AreThere w vs

-- what a step comes to, in front of other values
abbrev pub ProgressThere : World → List Value → Progress → Type 0
ProgressThere w vs Finishes = AreThere w vs
ProgressThere w vs (Completes k) = AreThere w (completion_names k vs)
ProgressThere w vs (Gives v) = AreThere w (v ∷ vs)
ProgressThere w vs (Becomes t) = AreThere w vs
ProgressThere w vs (GoesOn r done ts) = RowThere w r (done ++ vs)

module _ (w : World) where
  option_back : (o : Option Value) (vs : List Value) → AreThere w (option_names o vs)
      → AreThere w vs
  option_back None vs t = t
  option_back (Some v) vs t = t.1

  pub completion_back : (k : Completion) (vs : List Value) → AreThere w (completion_names k vs)
      → AreThere w vs
  completion_back (completion.Return v) vs t = t.1
  completion_back (completion.Throw v) vs t = t.1
  completion_back k vs t = t

  kept_back : (k : Option Completion) (vs : List Value) → AreThere w (kept_names k vs)
      → AreThere w vs
  kept_back None vs t = t
  kept_back (Some k) vs t = completion_back k vs t

  row_back : (r : StmtRow) (vs : List Value) → RowThere w r vs → AreThere w vs
  row_back StmtRow.Free vs t = absurd t
  row_back (StmtRow.ForInKeys v ks x b ls) vs t = t.1
  row_back (StmtRow.Finally k) vs t = kept_back k vs t
  row_back (StmtRow.Body c n) vs t = option_back n vs t
  row_back (StmtRow.Catch s f) vs t = t.1
  row_back r vs t = t

  -- the completion alone, without values behind it
  completion_less : (k : Completion) (xs vs : List Value)
      → AreThere w (completion_names k (xs ++ vs)) → AreThere w (completion_names k vs)
  completion_less (completion.Return v) xs vs t = (t.0, back_there w xs vs t.1)
  completion_less (completion.Throw v) xs vs t = (t.0, back_there w xs vs t.1)
  completion_less k xs vs t = back_there w xs vs t

  kept_less : (k : Option Completion) (xs vs : List Value) → AreThere w (kept_names k (xs ++ vs))
      → AreThere w (kept_names k vs)
  kept_less None xs vs t = back_there w xs vs t
  kept_less (Some k) xs vs t = completion_less k xs vs t

  module _ (a : Arena) (c : Context) where
    names_there : (r : CodeRow) (v : Value) (ks : List (List ℕ)) (xs : List Value)
        → RowThere w (with_names a c r v ks) xs → AreThere w (v ∷ xs)
    names_there (code.ForIn f) v ks xs t = t
    names_there r v ks xs t = absurd t

    -- what a move names is there where what it makes is
    pub moved_there : (vs : List Value) (r : CodeRow) (e : Evaluation) (m : StmtMove)
        → ProgressThere w vs (progress_of a c r e m) → AreThere w (move_names m e.done vs)
    moved_there vs r e move.Finished t = t
    moved_there vs r e (move.Value v) t = t
    moved_there vs r e (move.Abrupt k) t = t
    moved_there vs r e (move.Becomes id) t = t
    moved_there vs r e (move.GoesOn p) t = row_back (row_as a c (at_phase r p)) (e.done ++ vs) t
    moved_there vs r e (move.Names v ks) t = names_there r v ks (e.done ++ vs) t
    moved_there vs r e (move.Finally k) t = t

    caught_there : (r : CodeRow) (s : ScopeId) (xs : List Value)
        → RowThere w (row_as a c (catch_in s r)) xs → s.number < length w.scopes
    caught_there (code.Try g) s xs t = t.0
    caught_there r s xs t = absurd t

    phase_there : (r : CodeRow) (p : StmtPhase) (xs : List Value)
        → RowThere w (row_as a c (at_phase r p)) xs
        → IsBelow (length w.scopes) (scope_entered (move.GoesOn p))
    phase_there r (phase.Catch s) xs t = caught_there r s xs t
    phase_there r p xs t = tt

    pub scope_there : (vs : List Value) (r : CodeRow) (e : Evaluation) (m : StmtMove)
        → ProgressThere w vs (progress_of a c r e m)
        → IsBelow (length w.scopes) (scope_entered m)
    scope_there vs r e (move.GoesOn p) t = phase_there r p (e.done ++ vs) t
    scope_there vs r e m t = tt

  module _ (vs : List Value) where
    if_there : (t u : Tree) (o : Option Value) → AreThere w vs → ProgressThere w vs (if_row t u o)
    if_there t u (Some v) h =
        elim (to_boolean v) as (λ b. ProgressThere w vs (if b then Becomes t else Becomes u))
        [ true ↦ h | false ↦ h ]
    if_there t u None h = h

    test_there : (l : Loop) (t : Tree) → AreThere w vs → ProgressThere w vs (loops.at_test l t)
    test_there l Tree.Missing h = h
    test_there l t h = h

    start_there : (l : Loop) (t : Tree) → AreThere w vs → ProgressThere w vs (loops.at_start l t)
    start_there l Tree.Missing h = test_there l l.test h
    start_there l t h = h

    update_there : (l : Loop) (t : Tree) → AreThere w vs → ProgressThere w vs (loops.at_update l t)
    update_there l Tree.Missing h = test_there l l.test h
    update_there l t h = h

    tested_there : (l : Loop) (o : Option Value) → AreThere w vs
        → ProgressThere w vs (loops.test_row l o)
    tested_there l o h =
        elim (loops.holds o)
        as (λ b. ProgressThere w vs (if b then loops.into_body l else Finishes))
        [ true ↦ h | false ↦ h ]

    default_there : (ls : Labels) (o : Option Tree) → AreThere w vs
        → ProgressThere w vs (switches.at_default ls o)
    default_there ls (Some cs) h = h
    default_there ls None h = h

    clause_there : (cs : Tree) (ls : Labels) (v : Value) (o : Option switches.Tested)
        → IsThere w v → AreThere w vs → ProgressThere w vs (switches.at_clause cs ls v o)
    clause_there cs ls v (Some k) t h = (t, h)
    clause_there cs ls v None t h = default_there ls (switches.from_default cs) h

    switch_there : (cs : Tree) (ls : Labels) (done : List Value) → AreThere w (done ++ vs)
        → ProgressThere w vs (switches.switch_row cs ls (only done))
    switch_there cs ls [] t = t
    switch_there cs ls (v ∷ []) t = clause_there cs ls v (switches.first_tested cs) t.0 t.1
    switch_there cs ls (u ∷ v ∷ xs) t = back_there w (u ∷ v ∷ xs) vs t

    case_there : (cs left : Tree) (ls : Labels) (done : List Value) → AreThere w (done ++ vs)
        → ProgressThere w vs (switches.case_row cs left ls (pair done))
    case_there cs left ls [] t = t
    case_there cs left ls (u ∷ []) t = t.1
    case_there cs left ls (u ∷ v ∷ []) t =
        let rest = switches.first_tested (switches.behind_first left) in
        elim (same u v) as (λ b. ProgressThere w vs (if b then switches.into_statements ls left
        else switches.at_clause cs ls u rest))
        [ true ↦ t.1.1 | false ↦ clause_there cs ls u rest t.0 t.1.1 ]
    case_there cs left ls (u ∷ v ∷ x ∷ xs) t = back_there w (u ∷ v ∷ x ∷ xs) vs t

    return_there : (done : List Value) → AreThere w (done ++ vs)
        → ProgressThere w vs (return_row (slice_get done 0))
    return_there [] t = (tt, t)
    return_there (v ∷ xs) t = (t.0, back_there w xs vs t.1)

    throw_there : (done : List Value) → AreThere w (done ++ vs)
        → ProgressThere w vs (throw_row (slice_get done 0))
    throw_there [] t = t
    throw_there (v ∷ xs) t = (t.0, back_there w xs vs t.1)

    brought_there : (k : Option Completion) → AreThere w (kept_names k vs)
        → ProgressThere w vs (finally_row k)
    brought_there None t = t
    brought_there (Some k) t = t

    pub finally_there : (f : Tree) (k : Option Completion) → AreThere w (kept_names k vs)
        → ProgressThere w vs (into_finally f k)
    finally_there Tree.Missing k t = brought_there k t
    finally_there f k t = t

    result_there : (n : Option Value) (v : Value) → AreThere w (option_names n (v ∷ vs))
        → AreThere w (result_of n v ∷ vs)
    result_there None v t = t
    result_there (Some m) v t =
        elim (is_object v) as (λ b. AreThere w ((if b then v else m) ∷ vs))
        [ true ↦ t.1 | false ↦ (t.0, t.1.1) ]

    option_less : (n : Option Value) (xs : List Value) → AreThere w (option_names n (xs ++ vs))
        → AreThere w (option_names n (value.Undefined ∷ vs))
    option_less None xs t = (tt, back_there w xs vs t)
    option_less (Some m) xs t = (t.0, (tt, back_there w xs vs t.1))

    var_there : (a : Arena) (ds : List Declarator) (done : List Value) → AreThere w (done ++ vs)
        → ProgressThere w vs (control_row (var_as a ds) done)
    var_there a [] done t = back_there w done vs t
    var_there a (d ∷ ds) done t = back_there w done vs t

    -- the step of a row that touches no world
    pub control_there : (a : Arena) (c : Context) (r : CodeRow) (done : List Value)
        → AreThere w (row_names r (done ++ vs))
        → ProgressThere w vs (control_row (row_as a c r) done)
    control_there a c (code.Var ds i) done t = var_there a (drop i ds.now) done t
    control_there a c (code.If s u) done t =
        if_there _ _ (only done) (back_there w done vs t)
    control_there a c (code.DoWhile l) done t = back_there w done vs t
    control_there a c (code.While l) done t =
        test_there (loop_as a l) (loop_as a l).test (back_there w done vs t)
    control_there a c (code.For l) done t =
        start_there (loop_as a l) (loop_as a l).start (back_there w done vs t)
    control_there a c (code.LoopStart l) done t =
        test_there (loop_as a l) (loop_as a l).test (back_there w done vs t)
    control_there a c (code.LoopTest l) done t =
        tested_there (loop_as a l) (only done) (back_there w done vs t)
    control_there a c (code.LoopBody l) done t =
        update_there (loop_as a l) (loop_as a l).update (back_there w done vs t)
    control_there a c (code.LoopUpdate l) done t =
        test_there (loop_as a l) (loop_as a l).test (back_there w done vs t)
    control_there a c code.Return done t = return_there done t
    control_there a c code.Throw done t = throw_there done t
    control_there a c (code.Switch s) done t =
        switch_there (clauses_as a s.clauses.now) (labels_around a s.labelling) done t
    control_there a c (code.Case s i) done t =
        case_there (clauses_as a s.clauses.now) (clauses_as a (drop i s.clauses.now))
        (labels_around a s.labelling) done t
    control_there a c (code.Try g) done t =
        finally_there (finally_as a g.now) None (back_there w done vs t)
    control_there a c (code.Catch s g) done t =
        finally_there (finally_as a g.now) None (back_there w done vs t)
    control_there a c (code.Finally k) done t =
        brought_there (option_copied k) (kept_less (option_copied k) done vs t)
    control_there a c (code.Body n) done t =
        result_there (option_copied n) value.Undefined (option_less (option_copied n) done t)
    control_there a c (code.ForInNames f v ks i) done t = back_there w done vs t.1
    control_there a c r done t = back_there w done vs t

    jumped : (b : Bool) (k : Completion) (g : Progress) → AreThere w (completion_names k vs)
        → ProgressThere w vs g → ProgressThere w vs (if b then g else Completes k)
    jumped true k g t h = h
    jumped false k g t h = t

    loop_meets_there : (l : Loop) (k : Completion) → AreThere w (completion_names k vs)
        → ProgressThere w vs (loops.body_meets l k)
    loop_meets_there l (completion.Break x) t =
        jumped (takes l.labels x) (completion.Break x) Finishes t t
    loop_meets_there l (completion.Continue x) t =
        jumped (takes l.labels x) (completion.Continue x) (loops.into_update l) t
        (update_there l l.update t)
    loop_meets_there l k t = t

    switch_meets_there : (ls : Labels) (k : Completion) → AreThere w (completion_names k vs)
        → ProgressThere w vs (switches.switch_meets ls k)
    switch_meets_there ls (completion.Break x) t =
        jumped (takes ls x) (completion.Break x) Finishes t t
    switch_meets_there ls k t = t

    body_meets_there : (n : Option Value) (k : Completion)
        → AreThere w (option_names n (completion_names k vs))
        → ProgressThere w vs (body_meets n k)
    body_meets_there n (completion.Return v) t = result_there n v t
    body_meets_there n k t = option_back n (completion_names k vs) t

    var_meets_there : (a : Arena) (ds : List Declarator) (k : Completion)
        → AreThere w (completion_names k vs) → ProgressThere w vs (control_meets (var_as a ds) k)
    var_meets_there a [] k t = t
    var_meets_there a (d ∷ ds) k t = t

    -- what a completion does to one
    pub meets_there : (a : Arena) (c : Context) (r : CodeRow) (k : Completion)
        → AreThere w (row_names r (completion_names k vs))
        → ProgressThere w vs (control_meets (row_as a c r) k)
    meets_there a c (code.Var ds i) k t = var_meets_there a (drop i ds.now) k t
    meets_there a c (code.LoopBody l) k t = loop_meets_there (loop_as a l) k t
    meets_there a c (code.Labelled l ls) k t =
        jumped (is_break_of k l.now) k Finishes t (completion_back k vs t)
    meets_there a c (code.SwitchBody ls) k t = switch_meets_there (labels_around a ls) k t
    meets_there a c (code.Catch s g) k t = finally_there (finally_as a g.now) (Some k) t
    meets_there a c (code.Body n) k t = body_meets_there (option_copied n) k t
    meets_there a c (code.Finally n) k t = kept_back (option_copied n) (completion_names k vs) t
    meets_there a c (code.ForInNames f v ks i) k t = t.1
    meets_there a c r k t = t

    -- behind a write
    pub answer_there : (g : Progress) (x : Answered) → ProgressThere w vs g
        → AreThere w (answered_names x vs) → ProgressThere w vs (after_answer g x)
    answer_there g (answered.Returns v) h t = h
    answer_there g (answered.Throws v) h t = t

    pub answer_back : (x : Answered) → AreThere w (answered_names x vs) → AreThere w vs
    answer_back (answered.Returns v) t = t.1
    answer_back (answered.Throws v) t = t.1

    pub declared_there : (o : Option Initialised) → AreThere w vs
        → ProgressThere w vs (next_declared o)
    declared_there (Some d) h = h
    declared_there None h = h

    pub listed_there : (x : List ℕ) (b : Tree) (ls : Labels) (done : List Value)
        → AreThere w (done ++ vs) → ProgressThere w vs (for_in_row w x b ls (only done))
    listed_there x b ls [] t = t
    listed_there x b ls (v ∷ []) t = t
    listed_there x b ls (u ∷ v ∷ xs) t = back_there w (u ∷ v ∷ xs) vs t

    -- what is there of a move behind a write
    pub behind_write : (a : Arena) (c : Context) (r : CodeRow) (e : Evaluation) (m : StmtMove)
        (g : Progress) (x : Answered) → progress_of a c r e m ≡ after_answer g x
        → ProgressThere w vs g → AreThere w (answered_names x vs)
        → ProgressThere w vs (progress_of a c r e m)
    behind_write a c r e m g x is h t = subst (ProgressThere w vs) (sym is) (answer_there g x h t)

    -- of one that ends its node
    pub ended_there : (done : List Value) (m : StmtMove) (g : Progress) → ended_as m ≡ Some g
        → ProgressThere w vs g → AreThere w (move_names m done vs)
    ended_there done move.Finished g e t =
        let same : Finishes ≡ g = cc in subst (ProgressThere w vs) (sym same) t
    ended_there done (move.Value v) g e t =
        let same : Gives v ≡ g = cc in subst (ProgressThere w vs) (sym same) t
    ended_there done (move.Abrupt k) g e t =
        let same : Completes k ≡ g = cc in subst (ProgressThere w vs) (sym same) t
    ended_there done m g e t = absurd cc

    pub broken_there : (done : List Value) (m : StmtMove) (b : Bool) (l : Option (List ℕ))
        → ended_as m ≡ Some (if b then Finishes else Completes (completion.Break l))
        → AreThere w vs → AreThere w (move_names m done vs)
    broken_there done m b l e t =
        ended_there done m (if b then Finishes else Completes (completion.Break l)) e
        (jumped b (completion.Break l) Finishes t t)

-- a move that ends its node enters no scope
pub ended_scope : (n : ℕ) (m : StmtMove) (g : Progress) → ended_as m ≡ Some g
    → IsBelow n (scope_entered m)
ended_scope n (move.GoesOn p) g e = absurd cc
ended_scope n m g e = tt
