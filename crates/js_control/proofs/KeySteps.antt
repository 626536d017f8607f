-- Early steps: a throw, or the conversion of the last value.
use Rattle.std.proofs.Common.{◌≡◌, ◌<◌, true, List, [], ◌∷◌, Result, Ok, Err, IfOk, length, map, drop, take, ◌++◌, refl, ap, sym, ◌∙◌, lit<}
use Rattle.js_value.specs.declared.value.Value.{Value}
use Rattle.js_heap.specs.World.{World}
use Rattle.js_reference.specs.declared.error.ErrorName.TheVariants.{TypeError}
use Rattle.js_term.specs.Evaluation.{Evaluation, again}
use Rattle.js_term.specs.declared.operands.Operand.TheVariants as operand
use Rattle.js_reference.specs.Own.{OwnProperties}
use Rattle.js_tree.specs.Arena.{Arena, empty}
use Rattle.js_operands.specs.Conversions.{after_conversion, converts}
use Rattle.js_operands.specs.ExprMoves.{conversion_as, early_made_of, made_of, row_as}
use Rattle.js_operands.specs.Made as spec
use Rattle.js_operands.specs.Made.{Made}
use Rattle.js_operands.specs.Rows.{ExprRow}
use Rattle.js_operands.specs.Shapes.{IsEarlySo, IsNextAlone}
use Rattle.js_operands.specs.Steps.{operand_at, throws}
use Rattle.js_operands.specs.declared.expr_move.ExprMove.{ExprMove}
use Rattle.js_operands.specs.declared.expr_move.ExprMove.TheVariants as move
use Rattle.js_operands.specs.declared.row.ExprRow as code_row
use Rattle.js_operands.specs.declared.row.ExprRow.TheVariants as code
use Rattle.js_control.specs.Assignments.{index_is_early}
use Rattle.js_control.specs.Make.{early_expr}

module _ {H : Type 0} (r : ExprRow) (e d : Evaluation) (w w' : World) (h : H) where
  -- an error that a move throws is what its early step makes
  throw_made : (m : ExprMove) → throws TypeError w h ≡ made_of empty r e m w' h → throws TypeError w h ≡ early_made_of r e m w' h
  throw_made (move.Throws v) t = t
  throw_made m t = cc

  pub early_throw : {E : Type 0} (x : Result ExprMove E) → IfOk x (λ m. throws TypeError w h ≡ made_of empty r e m w' h) → IfOk x (λ m. throws TypeError w h ≡ early_made_of r e m w' h)
  early_throw (Ok m) t = throw_made m t
  early_throw (Err k) t = tt

  throw_so : (m : ExprMove) → throws TypeError w h ≡ made_of empty r e m w' h → IsEarlySo d e m
  throw_so (move.Throws v) t = tt
  throw_so m t = cc

  pub early_throw_so : {E : Type 0} (x : Result ExprMove E) → IfOk x (λ m. throws TypeError w h ≡ made_of empty r e m w' h) → IfOk x (λ m. IsEarlySo d e m)
  early_throw_so (Ok m) t = throw_so m t
  early_throw_so (Err k) t = tt

-- the values of the early step of an assignment to a member with a key are its base and key
pub record IsPair (vs : List Value) : Type 0 where
  pub both : 1 < length vs
  pub key : drop 1 vs ≡ operand_at vs 1 ∷ []
  pub behind : drop 2 vs ≡ []

pub is_pair : (vs : List Value) → index_is_early vs ≡ true → IsPair vs
is_pair [] e = cc
is_pair (b ∷ []) e = cc
is_pair (b ∷ k ∷ []) e = record { both = lit< tt; key = refl; behind = refl }
is_pair (b ∷ k ∷ v ∷ vs) e = cc

-- what that step makes where it converts the key
pub key_waits : {H : Type 0} (w w' : World) (h : H) (e e' : Evaluation) (k j : spec.Conversion) → index_is_early e.done ≡ true → e' ≡ again 1 e → j ≡ k → w' ≡ after_conversion w j
    → converts w h ExprRow.AssignIndex (take 1 e.done) (drop 2 e.done) k ≡ Made.Converts ExprRow.AssignIndex e'.done j [] w' h
key_waits w w' h e e' k j early is same after =
    let done : e'.done ≡ take 1 e.done = ap (λ x. x.done) is in
    let behind : drop 2 e.done ≡ [] = (is_pair e.done early).behind in
    let world : w' ≡ after_conversion w k = after ∙ ap (after_conversion w) same in
    cc

-- and how it leaves the node
pub key_waits_alone : (e e' : Evaluation) → index_is_early e.done ≡ true → e' ≡ again 1 e → IsNextAlone e e'
key_waits_alone e e' early is = record {
  first = operand_at e.done 1;
  coming = ap (λ x. x.todo) is ∙ ap (λ vs. map operand.Value vs ++ e.todo) (is_pair e.done early).key;
}

-- any other early step throws
pub others_throw : {H : Type 0} (O : OwnProperties H) (w : World) (h : H) (a : Arena) (r : code_row.ExprRow) (vs : List Value) → (r ≡ code.AssignIndex → ⊥) → early_expr O w h (row_as a r) vs ≡ throws TypeError w h
others_throw O w h a code.AssignIndex vs n = absurd (n refl)
others_throw O w h a r vs n = refl
