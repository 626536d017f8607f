-- Calls whose operands are values.
use Rattle.std.proofs.Common.{◌≡◌, ℕ, zero, suc, List, [], ◌∷◌, ◌++◌, Option, Some, None, Result, Ok, Err, IfOk, drop, refl, ap, sym, ◌∙◌, subst}
use Rattle.js_value.specs.declared.value.Value.{Value}
use Rattle.js_value.specs.declared.value.Value.TheVariants as value
use Rattle.js_heap.specs.Closed.{IsThere}
use Rattle.js_heap.specs.World.{World}
use Rattle.js_host.proofs.Lists.{each-append, each-left}
use Rattle.js_host.specs.There.{AreThere}
use Rattle.js_host.specs.declared.call.NativeCall.{NativeCall}
use Rattle.js_term.specs.Evaluation.{Evaluation}
use Rattle.js_tree.specs.Arena.{Arena}
use Rattle.js_operands.proofs.Operands.{named_there}
use Rattle.js_control.specs.Calls.{call_with, new_with}
use Rattle.js_operands.specs.ExprMoves.{made_of, move_names, operand_names, values_coming}
use Rattle.js_operands.specs.Made.{Made}
use Rattle.js_operands.specs.Rows.{ExprRow}
use Rattle.js_operands.specs.Shapes.{IsShaped}
use Rattle.js_operands.specs.Steps.{operand_at}
use Rattle.js_operands.specs.declared.expr_move.ExprMove.{ExprMove}
use Rattle.js_operands.specs.declared.expr_move.ExprMove.TheVariants as move
use Rattle.js_operands.specs.declared.row.Phase.{Phase}

-- the move of a call, where the node makes that call
pub request_made : {H E : Type 0} (r : Result ExprMove E) (f : Value) (q : NativeCall) (is : Made H) (a : Arena) (row : ExprRow) (e : Evaluation) (w : World) (h : H) → IfOk r (λ m. m ≡ move.Calls f q) → is ≡ Made.Calls f q w h → IfOk r (λ m. is ≡ made_of a row e m w h)
request_made (Ok m) f q is a row e w h i s = s ∙ ap (λ x. made_of a row e x w h) (sym i)
request_made (Err k) f q is a row e w h i s = tt

pub request_there : {E : Type 0} (r : Result ExprMove E) (x : ExprMove) (w : World) (vs : List Value) → IfOk r (λ m. m ≡ x) → AreThere w (move_names x vs) → IfOk r (λ m. AreThere w (move_names m vs))
request_there (Ok m) x w vs i t = subst (λ y. AreThere w (move_names y vs)) (sym i) t
request_there (Err k) x w vs i t = tt

-- the operands are as they were
pub request_shaped : {E : Type 0} (r : Result ExprMove E) (f : Value) (q : NativeCall) (n : Option Phase) (e e' : Evaluation) → IfOk r (λ m. m ≡ move.Calls f q) → e' ≡ e → IfOk r (λ m. IsShaped n e e' m)
request_shaped (Ok m) f q n e e' i s = subst (IsShaped n e e') (sym i) s
request_shaped (Err k) f q n e e' i s = tt

each_drop : (w : World) (n : ℕ) (vs : List Value) → AreThere w vs → AreThere w (drop n vs)
each_drop w zero vs a = a
each_drop w (suc n) [] a = tt
each_drop w (suc n) (v ∷ vs) a = each_drop w n vs a.1

module _ (w : World) (e : Evaluation) (hs vs : List Value) (a : AreThere w (operand_names e hs)) (b : AreThere w vs) where
  args_there : (n : ℕ) → AreThere w (drop n e.done)
  args_there n = each_drop w n e.done (each-left (IsThere w) e.done (values_coming e.todo) (each-left (IsThere w) (e.done ++ values_coming e.todo) hs a))

  -- what a call of operands names is there
  pub call_named : AreThere w (move_names (move.Calls (operand_at e.done 0) (call_with (operand_at e.done 1) (drop 2 e.done))) vs)
  call_named = (named_there w e.done (values_coming e.todo) hs 0 a, (named_there w e.done (values_coming e.todo) hs 1 a, each-append (IsThere w) (drop 2 e.done) vs (args_there 2) b))

  pub new_named : AreThere w (move_names (move.Calls (operand_at e.done 0) (new_with (drop 1 e.done))) vs)
  new_named = (named_there w e.done (values_coming e.todo) hs 0 a, (tt, each-append (IsThere w) (drop 1 e.done) vs (args_there 1) b))
