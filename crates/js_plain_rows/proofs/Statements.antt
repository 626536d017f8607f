-- The rows of statements commute with the plain image.
use Rattle.std.proofs.Common.{◌≡◌, ℕ, List, [], ◌∷◌, Bool, not, Option, Some, None}
use Rattle.std.proofs.Common.{is_some, map}
use Rattle.std.proofs.Common.{slice_get, if◌then◌else◌, refl, ap, ◌∙◌}
use Rattle.std.specs.Option.{option_map}
use Rattle.js_value.specs.Image.{image, to_boolean}
use Rattle.js_value.specs.Same.{same}
use Rattle.js_value.specs.declared.value.Value.{Value}
use Rattle.js_value.specs.declared.value.Value.TheVariants as value
use Rattle.js_value.proofs.Images.{is_primitive-image, same-image_left, same-image_right}
use Rattle.js_value.proofs.Images.{to_boolean-image}
use Rattle.std.proofs.lemmas.List.{length-map}
use Rattle.js_heap.specs.Scopes.{declare, with_scope}
use Rattle.js_heap.specs.World.{World}
use Rattle.js_heap.specs.declared.class.ScopeId.{ScopeId}
use Rattle.js_host.specs.Images.{plain_scope, plain_world}
use Rattle.js_reference.specs.Callables.{is_object}
use Rattle.js_reference.specs.Errors.{Answer, thrown}
use Rattle.js_reference.specs.Errors.Answer.{Returns, Throws}
use Rattle.js_reference.specs.Names.{write_name}
use Rattle.js_reference.specs.Own.{OwnProperties}
use Rattle.js_reference.specs.Properties.{has_property, property}
use Rattle.js_reference.specs.Room.{fit, scopes_fit}
use Rattle.js_reference.specs.declared.error.ErrorName.{ErrorName}
use Rattle.js_reference.specs.declared.error.ErrorName.TheVariants.{RangeError}
use Rattle.js_term.specs.Completions.{plain_completion, plain_context}
use Rattle.js_term.specs.Operands.{Labels, listed}
use Rattle.js_term.specs.declared.completion.Completion.{Completion}
use Rattle.js_term.specs.declared.completion.Completion.TheVariants as completion
use Rattle.js_term.specs.declared.context.Context.{Context}
use Rattle.js_tree.specs.Trees.{Tree}
use Rattle.js_stmt.specs.Bodies.{body_meets, result_of}
use Rattle.js_stmt.specs.ForIn.{for_in_keys_row, for_in_meets, for_in_row, for_name, still_there}
use Rattle.js_stmt.specs.Jumps.{is_break_of, labelled_meets, return_row, throw_row}
use Rattle.js_stmt.specs.Loops as loops
use Rattle.js_stmt.specs.Made.{Made, Progress, made}
use Rattle.js_stmt.specs.Made.Progress.{Becomes, Completes, Finishes, Gives, GoesOn}
use Rattle.js_stmt.specs.Make.{control_meets, control_row, inner_stmt, made_stmt, met_stmt}
use Rattle.js_stmt.specs.Make.{stmt_has_no_step}
use Rattle.js_stmt.specs.Rows.{Loop, StmtRow}
use Rattle.js_stmt.specs.Steps.{goes_on, only, pair, takes, throws}
use Rattle.js_stmt.specs.Switches.{Tested, at_clause, at_default, behind_first, case_row}
use Rattle.js_stmt.specs.Switches.{first_tested, from_default, into_statements, switch_meets}
use Rattle.js_stmt.specs.Switches.{switch_row}
use Rattle.js_stmt.specs.Tries.{finally_row, into_catch, into_finally, next_scope, throw_meets}
use Rattle.js_stmt.specs.Tries.{try_meets, with_caught}
use Rattle.js_stmt.specs.Variables.{Initialised, first_initialised, if_row, next_declared, var_row}
use Rattle.js_plain.specs.Images.{OwnCommute, plain_answer}
use Rattle.js_plain.proofs.Common.{get-map, if-ap, if-same, is_some-map}
use Rattle.js_plain.proofs.Reading.{property-plain, thrown-plain}
use Rattle.js_plain.proofs.Scopes.{scopes-plain}
use Rattle.js_plain.proofs.Values.{values-plain}
use Rattle.js_plain.proofs.Writing.{operations-plain}
use Rattle.js_plain_rows.specs.Statements.{StatementsCommute, plain_progress, plain_row}
use Rattle.js_plain_rows.specs.Statements.{plain_step_made}

abbrev p : Progress → Progress
p = plain_progress

only-plain : (vs : List Value) → only (map image vs) ≡ option_map image (only vs)
only-plain [] = refl
only-plain (v ∷ []) = refl
only-plain (v ∷ u ∷ vs) = refl

abbrev images : Value × Value → Value × Value
images q = (image q.0, image q.1)

pair-plain : (vs : List Value) → pair (map image vs) ≡ option_map images (pair vs)
pair-plain [] = refl
pair-plain (v ∷ []) = refl
pair-plain (v ∷ u ∷ []) = refl
pair-plain (v ∷ u ∷ t ∷ vs) = refl

-- Choices of progress.

progress-if : (b b' : Bool) (x y x' y' : Progress) → b' ≡ b → x' ≡ p x → y' ≡ p y
    → (if b' then x' else y') ≡ p (if b then x else y)
progress-if b b' x y x' y' e q r = if-same _ _ _ _ _ _ e q r ∙ if-ap p b x y

-- What holds no value is its own image.

test-calm : (l : Loop) (t : Tree) → loops.at_test l t ≡ p (loops.at_test l t)
test-calm l Tree.Missing = refl
test-calm l (Tree.Made k u v ts) = refl
test-calm l (Tree.Word x) = refl
test-calm l (Tree.Cons t ts) = refl
test-calm l Tree.Nil = refl

start-calm : (l : Loop) (t : Tree) → loops.at_start l t ≡ p (loops.at_start l t)
start-calm l Tree.Missing = test-calm l l.test
start-calm l (Tree.Made k u v ts) = refl
start-calm l (Tree.Word x) = refl
start-calm l (Tree.Cons t ts) = refl
start-calm l Tree.Nil = refl

update-calm : (l : Loop) (t : Tree) → loops.at_update l t ≡ p (loops.at_update l t)
update-calm l Tree.Missing = test-calm l l.test
update-calm l (Tree.Made k u v ts) = refl
update-calm l (Tree.Word x) = refl
update-calm l (Tree.Cons t ts) = refl
update-calm l Tree.Nil = refl

default-calm : (ls : Labels) (o : Option Tree) → at_default ls o ≡ p (at_default ls o)
default-calm ls (Some cs) = refl
default-calm ls None = refl

declared-calm : (o : Option Initialised) → next_declared o ≡ p (next_declared o)
declared-calm (Some d) = refl
declared-calm None = refl

finally_row-plain : (k : Option Completion)
    → finally_row (option_map plain_completion k) ≡ p (finally_row k)
finally_row-plain (Some k) = refl
finally_row-plain None = refl

into_finally-plain : (f : Tree) (k : Option Completion)
    → into_finally f (option_map plain_completion k) ≡ p (into_finally f k)
into_finally-plain Tree.Missing k = finally_row-plain k
into_finally-plain (Tree.Made q u v ts) k = refl
into_finally-plain (Tree.Word x) k = refl
into_finally-plain (Tree.Cons t ts) k = refl
into_finally-plain Tree.Nil k = refl

-- Tests.

holds-plain : (o : Option Value) → loops.holds (option_map image o) ≡ loops.holds o
holds-plain (Some v) = to_boolean-image v
holds-plain None = refl

test_row-plain : (l : Loop) (o : Option Value)
    → loops.test_row l (option_map image o) ≡ p (loops.test_row l o)
test_row-plain l o =
    progress-if (loops.holds o) _ (loops.into_body l) Finishes _ _ (holds-plain o) refl refl

if_row-plain : (t u : Tree) (o : Option Value) → if_row t u (option_map image o) ≡ p
    (if_row t u o)
if_row-plain t u (Some v) = progress-if (to_boolean v) _ (Becomes t) (Becomes u) _ _
    (to_boolean-image v) refl refl
if_row-plain t u None = refl

return_row-plain : (o : Option Value) → return_row (option_map image o) ≡ p (return_row o)
return_row-plain (Some v) = refl
return_row-plain None = refl

throw_row-plain : (o : Option Value) → throw_row (option_map image o) ≡ p (throw_row o)
throw_row-plain (Some v) = refl
throw_row-plain None = refl

clause-plain : (cs : Tree) (ls : Labels) (v : Value) (o : Option Tested)
    → at_clause cs ls (image v) o ≡ p (at_clause cs ls v o)
clause-plain cs ls v (Some k) = refl
clause-plain cs ls v None = default-calm ls (from_default cs)

switch_row-plain : (cs : Tree) (ls : Labels) (o : Option Value)
    → switch_row cs ls (option_map image o) ≡ p (switch_row cs ls o)
switch_row-plain cs ls (Some v) = clause-plain cs ls v (first_tested cs)
switch_row-plain cs ls None = refl

case_row-plain : (cs left : Tree) (ls : Labels) (o : Option (Value × Value))
    → case_row cs left ls (option_map images o) ≡ p (case_row cs left ls o)
case_row-plain cs left ls (Some q) =
    progress-if (same q.0 q.1) _ (into_statements ls left) (at_clause cs ls q.0 (first_tested
    (behind_first left))) _ _
    (same-image_left q.0 (image q.1) ∙ same-image_right q.0 q.1) refl
    (clause-plain cs ls q.0 (first_tested (behind_first left)))
case_row-plain cs left ls None = refl

result-plain : (m : Option Value) (v : Value) → result_of (option_map image m) (image v) ≡ image
    (result_of m v)
result-plain None v = refl
result-plain (Some m) v =
    if-same _ _ _ _ _ _ (ap not (is_primitive-image v)) refl refl ∙ if-ap image (is_object v) v m

-- Completions.

loop_meets-plain : (l : Loop) (k : Completion)
    → loops.body_meets l (plain_completion k) ≡ p (loops.body_meets l k)
loop_meets-plain l (completion.Break x) =
    progress-if (takes l.labels x) _ Finishes (Completes (completion.Break x)) _ _ refl refl refl
loop_meets-plain l (completion.Continue x) =
    progress-if (takes l.labels x) _ (loops.into_update l) (Completes
    (completion.Continue x)) _ _ refl
    (update-calm l l.update) refl
loop_meets-plain l (completion.Return v) = refl
loop_meets-plain l (completion.Throw v) = refl

break_of-plain : (k : Completion) (l : List ℕ) → is_break_of
    (plain_completion k) l ≡ is_break_of k l
break_of-plain (completion.Break (Some x)) l = refl
break_of-plain (completion.Break None) l = refl
break_of-plain (completion.Continue x) l = refl
break_of-plain (completion.Return v) l = refl
break_of-plain (completion.Throw v) l = refl

labelled_meets-plain : (l : List ℕ) (k : Completion)
    → labelled_meets l (plain_completion k) ≡ p (labelled_meets l k)
labelled_meets-plain l k = progress-if (is_break_of k l) _ Finishes (Completes k) _ _
    (break_of-plain k l) refl refl

switch_meets-plain : (ls : Labels) (k : Completion)
    → switch_meets ls (plain_completion k) ≡ p (switch_meets ls k)
switch_meets-plain ls (completion.Break x) =
    progress-if (takes ls x) _ Finishes (Completes (completion.Break x)) _ _ refl refl refl
switch_meets-plain ls (completion.Continue x) = refl
switch_meets-plain ls (completion.Return v) = refl
switch_meets-plain ls (completion.Throw v) = refl

body_meets-plain : (m : Option Value) (k : Completion)
    → body_meets (option_map image m) (plain_completion k) ≡ p (body_meets m k)
body_meets-plain m (completion.Return v) = ap Gives (result-plain m v)
body_meets-plain m (completion.Break x) = refl
body_meets-plain m (completion.Continue x) = refl
body_meets-plain m (completion.Throw v) = refl

-- Rows that touch no world.

control_row-plain : (r : StmtRow) (vs : List Value)
    → control_row (plain_row r) (map image vs) ≡ p (control_row r vs)
control_row-plain (StmtRow.If t u) vs = ap (if_row t u) (only-plain vs) ∙ if_row-plain t u
    (only vs)
control_row-plain (StmtRow.DoWhile l) vs = refl
control_row-plain (StmtRow.While l) vs = test-calm l l.test
control_row-plain (StmtRow.For l) vs = start-calm l l.start
control_row-plain (StmtRow.LoopStart l) vs = test-calm l l.test
control_row-plain (StmtRow.LoopTest l) vs = ap (loops.test_row l) (only-plain vs)
    ∙ test_row-plain l
    (only vs)
control_row-plain (StmtRow.LoopBody l) vs = update-calm l l.update
control_row-plain (StmtRow.LoopUpdate l) vs = test-calm l l.test
control_row-plain (StmtRow.Continue x) vs = refl
control_row-plain (StmtRow.Break x) vs = refl
control_row-plain StmtRow.Return vs = ap return_row (get-map image vs 0) ∙ return_row-plain
    (slice_get vs 0)
control_row-plain StmtRow.Throw vs = ap throw_row (get-map image vs 0) ∙ throw_row-plain
    (slice_get vs 0)
control_row-plain (StmtRow.Switch cs ls) vs = ap (switch_row cs ls) (only-plain vs)
    ∙ switch_row-plain cs ls (only vs)
control_row-plain (StmtRow.Case cs left ls) vs =
    ap (case_row cs left ls) (pair-plain vs) ∙ case_row-plain cs left ls (pair vs)
control_row-plain (StmtRow.Try k f) vs = into_finally-plain f None
control_row-plain (StmtRow.Catch n f) vs = into_finally-plain f None
control_row-plain (StmtRow.Finally k) vs = finally_row-plain k
control_row-plain (StmtRow.Body c m) vs = ap Gives (result-plain m value.Undefined)
control_row-plain StmtRow.Free vs = refl
control_row-plain (StmtRow.Var x ds) vs = refl
control_row-plain (StmtRow.ForIn x b ls) vs = refl
control_row-plain (StmtRow.ForInKeys v ks x b ls) vs = refl
control_row-plain (StmtRow.Labelled l ls) vs = refl
control_row-plain (StmtRow.SwitchBody ls) vs = refl

control_meets-plain : (r : StmtRow) (k : Completion)
    → control_meets (plain_row r) (plain_completion k) ≡ p (control_meets r k)
control_meets-plain (StmtRow.LoopBody l) k = loop_meets-plain l k
control_meets-plain (StmtRow.Labelled l ls) k = labelled_meets-plain l k
control_meets-plain (StmtRow.SwitchBody ls) k = switch_meets-plain ls k
control_meets-plain (StmtRow.Catch n f) k = into_finally-plain f (Some k)
control_meets-plain (StmtRow.Body c m) k = body_meets-plain m k
control_meets-plain (StmtRow.If t u) k = refl
control_meets-plain (StmtRow.DoWhile l) k = refl
control_meets-plain (StmtRow.While l) k = refl
control_meets-plain (StmtRow.For l) k = refl
control_meets-plain (StmtRow.LoopStart l) k = refl
control_meets-plain (StmtRow.LoopTest l) k = refl
control_meets-plain (StmtRow.LoopUpdate l) k = refl
control_meets-plain (StmtRow.Continue x) k = refl
control_meets-plain (StmtRow.Break x) k = refl
control_meets-plain StmtRow.Return k = refl
control_meets-plain StmtRow.Throw k = refl
control_meets-plain (StmtRow.Switch cs ls) k = refl
control_meets-plain (StmtRow.Case cs left ls) k = refl
control_meets-plain (StmtRow.Try c f) k = refl
control_meets-plain (StmtRow.Finally c) k = refl
control_meets-plain StmtRow.Free k = refl
control_meets-plain (StmtRow.Var x ds) k = refl
control_meets-plain (StmtRow.ForIn x b ls) k = refl
control_meets-plain (StmtRow.ForInKeys v ks x b ls) k = refl

no_step-plain : (r : StmtRow) → stmt_has_no_step (plain_row r) ≡ stmt_has_no_step r
no_step-plain (StmtRow.LoopBody l) = refl
no_step-plain (StmtRow.Labelled l ls) = refl
no_step-plain (StmtRow.SwitchBody ls) = refl
no_step-plain (StmtRow.Catch n f) = refl
no_step-plain (StmtRow.Body c m) = refl
no_step-plain (StmtRow.If t u) = refl
no_step-plain (StmtRow.DoWhile l) = refl
no_step-plain (StmtRow.While l) = refl
no_step-plain (StmtRow.For l) = refl
no_step-plain (StmtRow.LoopStart l) = refl
no_step-plain (StmtRow.LoopTest l) = refl
no_step-plain (StmtRow.LoopUpdate l) = refl
no_step-plain (StmtRow.Continue x) = refl
no_step-plain (StmtRow.Break x) = refl
no_step-plain StmtRow.Return = refl
no_step-plain StmtRow.Throw = refl
no_step-plain (StmtRow.Switch cs ls) = refl
no_step-plain (StmtRow.Case cs left ls) = refl
no_step-plain (StmtRow.Try c f) = refl
no_step-plain (StmtRow.Finally c) = refl
no_step-plain StmtRow.Free = refl
no_step-plain (StmtRow.Var x ds) = refl
no_step-plain (StmtRow.ForIn x b ls) = refl
no_step-plain (StmtRow.ForInKeys v ks x b ls) = refl

inner-plain : (r : StmtRow) (c : Context)
    → inner_stmt (plain_row r) (plain_context c) ≡ plain_context (inner_stmt r c)
inner-plain (StmtRow.Catch n f) c = refl
inner-plain (StmtRow.Body b m) c = refl
inner-plain (StmtRow.LoopBody l) c = refl
inner-plain (StmtRow.Labelled l ls) c = refl
inner-plain (StmtRow.SwitchBody ls) c = refl
inner-plain (StmtRow.If t u) c = refl
inner-plain (StmtRow.DoWhile l) c = refl
inner-plain (StmtRow.While l) c = refl
inner-plain (StmtRow.For l) c = refl
inner-plain (StmtRow.LoopStart l) c = refl
inner-plain (StmtRow.LoopTest l) c = refl
inner-plain (StmtRow.LoopUpdate l) c = refl
inner-plain (StmtRow.Continue x) c = refl
inner-plain (StmtRow.Break x) c = refl
inner-plain StmtRow.Return c = refl
inner-plain StmtRow.Throw c = refl
inner-plain (StmtRow.Switch cs ls) c = refl
inner-plain (StmtRow.Case cs left ls) c = refl
inner-plain (StmtRow.Try k f) c = refl
inner-plain (StmtRow.Finally k) c = refl
inner-plain StmtRow.Free c = refl
inner-plain (StmtRow.Var x ds) c = refl
inner-plain (StmtRow.ForIn x b ls) c = refl
inner-plain (StmtRow.ForInKeys v ks x b ls) c = refl

-- Rows that touch the world.

next_scope-plain : (w : World) → next_scope (plain_world w) ≡ next_scope w
next_scope-plain w =
    ap (λ n. let s : ScopeId = record { number = n } in s) (length-map w.scopes plain_scope)

scopes_fit-plain : (w : World) (n : ℕ) → scopes_fit (plain_world w) n ≡ scopes_fit w n
scopes_fit-plain w n = ap (λ k. fit k n) (length-map w.scopes plain_scope)

caught-plain : (w : World) (s : Option ScopeId) (x : List ℕ) (v : Value)
    → with_caught (plain_world w) s x (image v) ≡ plain_world (with_caught w s x v)
caught-plain w s x v =
    ap (λ u. declare u (next_scope (plain_world w)) x (image v)) (scopes-plain.with_scope w s)
    ∙ (ap (λ n. declare (plain_world (with_scope w s)) n x (image v)) (next_scope-plain w)
    ∙ scopes-plain.declare (with_scope w s) (next_scope w) x v)

module _ {H : Type 0} (g : H → H) where
  abbrev m : Made H → Made H
  m = plain_step_made g

  unchanged : (w : World) (h : H) (x y : Progress) → y ≡ p x
      → made y (plain_world w) (g h) ≡ m (made x w h)
  unchanged w h x y e = ap (λ z. made z (plain_world w) (g h)) e

  goes_on-plain : (x y : Progress) (a b : Answer H) → y ≡ p x → b ≡ plain_answer g a
      → goes_on y b ≡ m (goes_on x a)
  goes_on-plain x y a b e f = ap (λ z. goes_on z b) e ∙ (ap (goes_on (p x)) f ∙ step a)
    where
      step : (a : Answer H) → goes_on (p x) (plain_answer g a) ≡ m (goes_on x a)
      step (Returns v w h) = refl
      step (Throws v w h) = refl

  throws-plain : (e : ErrorName) (w : World) (h : H) → throws e (plain_world w) (g h) ≡ m
      (throws e w h)
  throws-plain e w h = goes_on-plain Finishes Finishes (thrown e w h) _ refl (thrown-plain g e w h)

  into_catch-plain : (s : Option ScopeId) (w : World) (h : H) (x : List ℕ) (ss f : Tree)
      (v : Value)
      → into_catch s (plain_world w) (g h) x ss f (image v) ≡ m (into_catch s w h x ss f v)
  into_catch-plain s w h x ss f v =
      if-same _ _ _ _ _ _ (scopes_fit-plain w 1)
      (ap (λ n. made (GoesOn (StmtRow.Catch n f) [] (listed ss)) (with_caught (plain_world w) s x
      (image v)) (g h)) (next_scope-plain w)
      ∙ ap (λ u. made (GoesOn (StmtRow.Catch (next_scope w) f) [] (listed ss)) u (g h))
      (caught-plain w s x v))
      (throws-plain RangeError w h)
      ∙ if-ap m (scopes_fit w 1) (made (GoesOn (StmtRow.Catch (next_scope w) f) [] (listed ss))
      (with_caught w s x v) h)
      (throws RangeError w h)

  finally_met : (w : World) (h : H) (f : Tree) (k : Completion)
      → made (into_finally f (Some (plain_completion k))) (plain_world w) (g h)
      ≡ m (made (into_finally f (Some k)) w h)
  finally_met w h f k = unchanged w h (into_finally f (Some k)) _ (into_finally-plain f (Some k))

  throw_meets-plain : (s : Option ScopeId) (w : World) (h : H) (c f : Tree) (v : Value)
      → throw_meets s (plain_world w) (g h) c f (image v) ≡ m (throw_meets s w h c f v)
  throw_meets-plain s w h (Tree.Cons (Tree.Word x) (Tree.Cons ss r)) f v = into_catch-plain s w h x
      ss f v
  throw_meets-plain s w h (Tree.Cons (Tree.Word x) Tree.Nil) f v = finally_met w h f
      (completion.Throw v)
  throw_meets-plain s w h (Tree.Cons (Tree.Word x) Tree.Missing) f v = finally_met w h f
      (completion.Throw v)
  throw_meets-plain s w h (Tree.Cons (Tree.Word x) (Tree.Word y)) f v = finally_met w h f
      (completion.Throw v)
  throw_meets-plain s w h (Tree.Cons (Tree.Word x) (Tree.Made k a b ts)) f v = finally_met w h f
      (completion.Throw v)
  throw_meets-plain s w h (Tree.Cons Tree.Missing ts) f v = finally_met w h f (completion.Throw v)
  throw_meets-plain s w h (Tree.Cons Tree.Nil ts) f v = finally_met w h f (completion.Throw v)
  throw_meets-plain s w h (Tree.Cons (Tree.Cons t us) ts) f v = finally_met w h f
      (completion.Throw v)
  throw_meets-plain s w h (Tree.Cons (Tree.Made k a b us) ts) f v = finally_met w h f
      (completion.Throw v)
  throw_meets-plain s w h Tree.Missing f v = finally_met w h f (completion.Throw v)
  throw_meets-plain s w h Tree.Nil f v = finally_met w h f (completion.Throw v)
  throw_meets-plain s w h (Tree.Word x) f v = finally_met w h f (completion.Throw v)
  throw_meets-plain s w h (Tree.Made k a b ts) f v = finally_met w h f (completion.Throw v)

  try_meets-plain : (s : Option ScopeId) (w : World) (h : H) (c f : Tree) (k : Completion)
      → try_meets s (plain_world w) (g h) c f (plain_completion k) ≡ m (try_meets s w h c f k)
  try_meets-plain s w h c f (completion.Throw v) = throw_meets-plain s w h c f v
  try_meets-plain s w h c f (completion.Break x) = finally_met w h f (completion.Break x)
  try_meets-plain s w h c f (completion.Continue x) = finally_met w h f (completion.Continue x)
  try_meets-plain s w h c f (completion.Return v) = finally_met w h f (completion.Return v)

  for_in-plain : (w : World) (h : H) (x : List ℕ) (b : Tree) (ls : Labels) (o : Option Value)
      → made (for_in_row (plain_world w) x b ls (option_map image o)) (plain_world w) (g h)
      ≡ m (made (for_in_row w x b ls o) w h)
  for_in-plain w h x b ls (Some v) =
      ap (λ ks. made (GoesOn (StmtRow.ForInKeys (image v) ks x b ls) [] []) (plain_world w) (g h))
      (values-plain.keys_in w v)
  for_in-plain w h x b ls None = refl

  module _ (O : OwnProperties H) (own : OwnCommute g O) where
    has-plain : (w : World) (h : H) (v : Value) (x : List ℕ)
        → has_property O (plain_world w) (g h) (image v) x ≡ has_property O w h v x
    has-plain w h v x = ap is_some (property-plain g O own w h v x) ∙ is_some-map image
        (property O w h v x)

    still_there-plain : (w : World) (h : H) (v : Value) (ks : List (List ℕ))
        → still_there O (plain_world w) (g h) (image v) ks ≡ still_there O w h v ks
    still_there-plain w h v [] = refl
    still_there-plain w h v (k ∷ ks) =
        if-same _ _ _ _ _ _ (has-plain w h v k) refl (still_there-plain w h v ks)

    written : (s : Option ScopeId) (w : World) (h : H) (x : List ℕ) (v : Value)
        → write_name O (plain_world w) (g h) s x (image v) ≡ plain_answer g
        (write_name O w h s x v)
    written s w h x v = (operations-plain g O own).write_name w h s x v

    for_name-plain : (s : Option ScopeId) (w : World) (h : H) (v : Value) (x : List ℕ) (b : Tree)
        (ls : Labels) (ks : List (List ℕ))
        → for_name O (plain_world w) (g h) s (image v) x b ls ks ≡ m
        (for_name O w h s v x b ls ks)
    for_name-plain s w h v x b ls [] = refl
    for_name-plain s w h v x b ls (k ∷ ks) =
        goes_on-plain (GoesOn (StmtRow.ForInKeys v ks x b ls) [] (b ∷ [])) _ (write_name O w h s x
        (value.Text k)) _ refl
        (written s w h x (value.Text k))

    keys_row-plain : (s : Option ScopeId) (w : World) (h : H) (v : Value) (x : List ℕ) (b : Tree)
        (ls : Labels) (ks : List (List ℕ))
        → for_in_keys_row O (plain_world w) (g h) s (image v) x b ls ks ≡ m
        (for_in_keys_row O w h s v x b ls ks)
    keys_row-plain s w h v x b ls ks =
        ap (for_name O (plain_world w) (g h) s (image v) x b ls) (still_there-plain w h v ks)
        ∙ for_name-plain s w h v x b ls (still_there O w h v ks)

    keys_met-plain : (s : Option ScopeId) (w : World) (h : H) (v : Value) (x : List ℕ) (b : Tree)
        (ls : Labels) (ks : List (List ℕ))
        (k : Completion)
        → for_in_meets O (plain_world w) (g h) s (image v) x b ls ks (plain_completion k) ≡ m
        (for_in_meets O w h s v x b ls ks k)
    keys_met-plain s w h v x b ls ks (completion.Break l) =
        if-ap m (takes ls l) (made Finishes w h) (made (Completes (completion.Break l)) w h)
    keys_met-plain s w h v x b ls ks (completion.Continue l) =
        ap (λ y. if takes ls l then y else made (Completes (completion.Continue l)) (plain_world w)
        (g h))
        (keys_row-plain s w h v x b ls ks)
        ∙ if-ap m (takes ls l) (for_in_keys_row O w h s v x b ls ks) (made (Completes
        (completion.Continue l)) w h)
    keys_met-plain s w h v x b ls ks (completion.Return u) = refl
    keys_met-plain s w h v x b ls ks (completion.Throw u) = refl

    var-plain : (s : Option ScopeId) (w : World) (h : H) (x : List ℕ) (ds : Tree)
        (o : Option Value)
        → var_row O s (plain_world w) (g h) x ds (option_map image o) ≡ m
        (var_row O s w h x ds o)
    var-plain s w h x ds (Some v) =
        goes_on-plain (next_declared (first_initialised ds)) _ (write_name O w h s x v) _
        (declared-calm (first_initialised ds)) (written s w h x v)
    var-plain s w h x ds None = refl

    controlled : (w : World) (h : H) (r : StmtRow) (vs : List Value)
        → made (control_row (plain_row r) (map image vs)) (plain_world w) (g h) ≡ m (made
        (control_row r vs) w h)
    controlled w h r vs = unchanged w h (control_row r vs) _ (control_row-plain r vs)

    control_met : (w : World) (h : H) (r : StmtRow) (k : Completion)
        → made (control_meets (plain_row r) (plain_completion k)) (plain_world w) (g h) ≡ m
        (made
        (control_meets r k) w h)
    control_met w h r k = unchanged w h (control_meets r k) _ (control_meets-plain r k)

    made-plain : (s : Option ScopeId) (w : World) (h : H) (r : StmtRow) (vs : List Value)
        → made_stmt O s (plain_world w) (g h) (plain_row r) (map image vs) ≡ m
        (made_stmt O s w h r vs)
    made-plain s w h (StmtRow.Var x ds) vs =
        ap (var_row O s (plain_world w) (g h) x ds) (only-plain vs) ∙ var-plain s w h x ds
        (only vs)
    made-plain s w h (StmtRow.ForIn x b ls) vs =
        ap (λ o. made (for_in_row (plain_world w) x b ls o) (plain_world w) (g h)) (only-plain vs)
        ∙ for_in-plain w h x b ls (only vs)
    made-plain s w h (StmtRow.ForInKeys v ks x b ls) vs = keys_row-plain s w h v x b ls ks
    made-plain s w h (StmtRow.If t u) vs = controlled w h (StmtRow.If t u) vs
    made-plain s w h (StmtRow.DoWhile l) vs = controlled w h (StmtRow.DoWhile l) vs
    made-plain s w h (StmtRow.While l) vs = controlled w h (StmtRow.While l) vs
    made-plain s w h (StmtRow.For l) vs = controlled w h (StmtRow.For l) vs
    made-plain s w h (StmtRow.LoopStart l) vs = controlled w h (StmtRow.LoopStart l) vs
    made-plain s w h (StmtRow.LoopTest l) vs = controlled w h (StmtRow.LoopTest l) vs
    made-plain s w h (StmtRow.LoopBody l) vs = controlled w h (StmtRow.LoopBody l) vs
    made-plain s w h (StmtRow.LoopUpdate l) vs = controlled w h (StmtRow.LoopUpdate l) vs
    made-plain s w h (StmtRow.Continue x) vs = refl
    made-plain s w h (StmtRow.Break x) vs = refl
    made-plain s w h StmtRow.Return vs = controlled w h StmtRow.Return vs
    made-plain s w h StmtRow.Throw vs = controlled w h StmtRow.Throw vs
    made-plain s w h (StmtRow.Switch cs ls) vs = controlled w h (StmtRow.Switch cs ls) vs
    made-plain s w h (StmtRow.Case cs left ls) vs = controlled w h (StmtRow.Case cs left ls) vs
    made-plain s w h (StmtRow.Try k f) vs = controlled w h (StmtRow.Try k f) vs
    made-plain s w h (StmtRow.Catch n f) vs = controlled w h (StmtRow.Catch n f) vs
    made-plain s w h (StmtRow.Finally k) vs = controlled w h (StmtRow.Finally k) vs
    made-plain s w h (StmtRow.Body c k) vs = controlled w h (StmtRow.Body c k) vs
    made-plain s w h StmtRow.Free vs = refl
    made-plain s w h (StmtRow.Labelled l ls) vs = refl
    made-plain s w h (StmtRow.SwitchBody ls) vs = refl

    met-plain : (s : Option ScopeId) (w : World) (h : H) (r : StmtRow) (k : Completion)
        → met_stmt O s (plain_world w) (g h) (plain_row r) (plain_completion k) ≡ m
        (met_stmt O s w h r k)
    met-plain s w h (StmtRow.ForInKeys v ks x b ls) k = keys_met-plain s w h v x b ls ks k
    met-plain s w h (StmtRow.Try c f) k = try_meets-plain s w h c f k
    met-plain s w h (StmtRow.If t u) k = refl
    met-plain s w h (StmtRow.DoWhile l) k = refl
    met-plain s w h (StmtRow.While l) k = refl
    met-plain s w h (StmtRow.For l) k = refl
    met-plain s w h (StmtRow.LoopStart l) k = refl
    met-plain s w h (StmtRow.LoopTest l) k = refl
    met-plain s w h (StmtRow.LoopBody l) k = control_met w h (StmtRow.LoopBody l) k
    met-plain s w h (StmtRow.LoopUpdate l) k = refl
    met-plain s w h (StmtRow.Continue x) k = refl
    met-plain s w h (StmtRow.Break x) k = refl
    met-plain s w h StmtRow.Return k = refl
    met-plain s w h StmtRow.Throw k = refl
    met-plain s w h (StmtRow.Switch cs ls) k = refl
    met-plain s w h (StmtRow.Case cs left ls) k = refl
    met-plain s w h (StmtRow.Catch n f) k = control_met w h (StmtRow.Catch n f) k
    met-plain s w h (StmtRow.Finally c) k = refl
    met-plain s w h (StmtRow.Body c v) k = control_met w h (StmtRow.Body c v) k
    met-plain s w h StmtRow.Free k = refl
    met-plain s w h (StmtRow.Var x ds) k = refl
    met-plain s w h (StmtRow.ForIn x b ls) k = refl
    met-plain s w h (StmtRow.Labelled l ls) k = control_met w h (StmtRow.Labelled l ls) k
    met-plain s w h (StmtRow.SwitchBody ls) k = control_met w h (StmtRow.SwitchBody ls) k

    pub statements-plain : StatementsCommute g O
    statements-plain = record {
      made = made-plain;
      met = met-plain;
      no_step = no_step-plain;
      inner =
          inner-plain;
    }
