-- What a try names behind a completion is there, and no object and no scope is missing then.
use Rattle.std.proofs.Common.{◌≡◌, ℕ, ◌+◌, List, [], ◌∷◌, Bool, true, false, Option}
use Rattle.std.proofs.Common.{Some, None}
use Rattle.std.proofs.Common.{length, slice_get, refl, sym, subst, arith, length-append}
use Rattle.std.proofs.Common.{length-set}
use Rattle.std.specs.Prelude.{if◌then◌else◌, slice_set}
use Rattle.std.specs.Option.{option_map_or}
use Rattle.js_value.specs.declared.value.Value.{Value}
use Rattle.js_value.specs.declared.value.Value.TheVariants as value
use Rattle.js_heap.specs.Chains.{IsBelow}
use Rattle.js_heap.specs.Closed.{IsThere}
use Rattle.js_heap.specs.Objects.{first_properties, with_object}
use Rattle.js_heap.specs.Scopes.{named_scope, with_scope}
use Rattle.js_heap.specs.World.{World}
use Rattle.js_heap.specs.declared.class.Class.TheVariants as class
use Rattle.js_heap.specs.declared.class.ScopeId.{ScopeId}
use Rattle.js_host.specs.There.{AreThere}
use Rattle.js_reference.proofs.Later.{later_error}
use Rattle.js_reference.proofs.There.{still_there}
use Rattle.js_reference.specs.Errors.{error_prototype, error_text, next_object}
use Rattle.js_reference.specs.Errors.{with_error}
use Rattle.js_reference.specs.Later.{IsLater}
use Rattle.js_reference.specs.Room.{objects_fit, scopes_fit}
use Rattle.js_reference.specs.declared.error.ErrorName.{ErrorName}
use Rattle.js_reference.specs.declared.error.ErrorName.TheVariants.{RangeError}
use Rattle.js_term.specs.Evaluation.{Evaluation}
use Rattle.js_term.specs.Operands.{listed}
use Rattle.js_term.specs.declared.completion.Completion.{Completion}
use Rattle.js_term.specs.declared.completion.Completion.TheVariants as completion
use Rattle.js_term.specs.declared.context.Context.{Context}
use Rattle.js_tree.specs.Arena.{Arena}
use Rattle.js_tree.specs.Trees.{Tree}
use Rattle.js_stmt.specs.CodeRows.{completion_names, made_of, move_names, scope_entered}
use Rattle.js_stmt.specs.Made.{Made, made}
use Rattle.js_stmt.specs.Made.Progress.{GoesOn}
use Rattle.js_stmt.specs.Rows.StmtRow.{Catch}
use Rattle.js_stmt.specs.Steps.{throws}
use Rattle.js_stmt.specs.Tries.{into_catch, next_scope, throw_meets, try_meets, with_caught}
use Rattle.js_stmt.specs.Wider.{IsWider}
use Rattle.js_stmt.specs.declared.row.StmtRow.{StmtRow}
use Rattle.js_stmt.specs.declared.stmt_move.StmtMove.{StmtMove}
use Rattle.js_stmt.proofs.Shaped.{next_there}
use Rattle.js_stmt.specs.Shapes.{IsNext}
use Rattle.js_stmt.proofs.Brought.{ProgressThere, finally_there, moved_there, scope_there}

pub same_wide : (w : World) → IsWider w w
same_wide w = record { objects = omega arith; scopes = omega arith }

pub later_wide : (w w' : World) → IsLater w w' → IsWider w w'
later_wide w w' l =
    let more = l.objects in let even = l.scopes in
    record { objects = more; scopes = omega (arith, even) }

set_kept : {X : Type 0} (xs : List X) (n : ℕ) (f : X → X) (o : Option X)
    → length (option_map_or (λ x. slice_set xs n (f x)) o xs) ≡ length xs
set_kept xs n f (Some x) = length-set xs n (f x)
set_kept xs n f None = refl

error_there : (w : World) (e : ErrorName) (b : Bool)
    → IsThere (if b then with_object w class.Error (Some (error_prototype e)) else w)
    (if b then value.Ref (next_object w) else value.Text (error_text e))
error_there w e true =
    let one = length-append w.objects
    (record {
      class = class.Error;
      prototype = Some (error_prototype e);
      properties = first_properties class.Error;
    } ∷ []) in
    omega (arith, one)
error_there w e false = tt

module _ {H : Type 0} (s : Option ScopeId) (w : World) (h : H) (vs : List Value) where
  -- what is left is there, in a world in which nothing is missing
  abbrev pub MadeThere : Made H → Type 0
  MadeThere x = ProgressThere x.world vs x.progress × IsWider w x.world

  abbrev caught_world : (x : List ℕ) → Value → World
  caught_world x v = with_caught w s x v

  into_catch_there : (x : List ℕ) (ss f : Tree) (v : Value) → AreThere w (v ∷ vs)
      → MadeThere (into_catch s w h x ss f v)
  into_catch_there x ss f v t =
      let scopes = (with_scope w s).scopes in
      let kept : length (with_caught w s x v).scopes ≡ length scopes =
      set_kept scopes (length w.scopes) (named_scope x v) (slice_get scopes (length w.scopes)) in
      let added : length scopes ≡ length w.scopes + 1 =
      length-append w.scopes (record { parent = s; names = [] } ∷ []) in
      let later = later_error w RangeError in
      elim (scopes_fit w 1) as (λ b. MadeThere
      (if b then made (GoesOn (Catch (next_scope w) f) [] (listed ss)) (with_caught w s x v) h
      else throws RangeError w h)) [
        | true ↦ (
          (omega (arith, kept, added), t.1),
          record { objects = omega arith; scopes = omega (arith, kept, added) },
        )
        | false ↦ (
          (
            error_there w RangeError (objects_fit w 1),
            still_there w (with_error w RangeError) vs later.objects t.1,
          ),
          later_wide w (with_error w RangeError) later,
        )
      ]

  throw_there : (k f : Tree) (v : Value) → AreThere w (v ∷ vs)
      → MadeThere (throw_meets s w h k f v)
  throw_there (Tree.Cons (Tree.Word x) (Tree.Cons ss r)) f v t = into_catch_there x ss f v t
  throw_there k f v t = (finally_there w vs f (Some (completion.Throw v)) t, same_wide w)

  pub try_there : (k f : Tree) (e : Completion) → AreThere w (completion_names e vs)
      → MadeThere (try_meets s w h k f e)
  try_there k f (completion.Throw v) t = throw_there k f v t
  try_there k f (completion.Return v) t =
      (finally_there w vs f (Some (completion.Return v)) t, same_wide w)
  try_there k f (completion.Break l) t =
      (finally_there w vs f (Some (completion.Break l)) t, same_wide w)
  try_there k f (completion.Continue l) t =
      (finally_there w vs f (Some (completion.Continue l)) t, same_wide w)

  -- of a move that is such a step
  pub left_there : (a : Arena) (c : Context) (r : StmtRow) (e : Evaluation) (m : StmtMove)
      (w' : World) (h' : H) (x : Made H) → made_of a c r e m w' h' ≡ x → MadeThere x
      → AreThere w' (move_names m e.done vs) × IsBelow (length w'.scopes) (scope_entered m)
      × IsWider w w' × IsNext r m
  left_there a c r e m w' h' x is t =
      let there = subst MadeThere (sym is) t in (
        moved_there w' a c vs r e m there.0,
        scope_there w' a c vs r e m there.0,
        there.1,
        next_there a c w' vs r e m there.0,
      )
