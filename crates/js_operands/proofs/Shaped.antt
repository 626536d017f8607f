-- How steps leave a node that waits, by what code reaches.
use Rattle.std.proofs.Common.{◌≡◌, Option, Some, IfSome, subst}
use Rattle.js_term.specs.Evaluation.{Evaluation}
use Rattle.js_operands.specs.Keyed.{IsKeyedSo}
use Rattle.js_operands.specs.Shapes.{IsReachedSo, IsShaped}
use Rattle.js_operands.specs.declared.expr_move.ExprMove.{ExprMove}
use Rattle.js_operands.specs.declared.keys.Keyed.{Keyed}
use Rattle.js_operands.specs.declared.keys.Keyed.TheVariants as key
use Rattle.js_operands.specs.declared.reached.Reached.{Reached}
use Rattle.js_operands.specs.declared.reached.Reached.TheVariants as reached
use Rattle.js_operands.specs.declared.row.Phase.{Phase}

module _ (n : Option Phase) (e e' : Evaluation) (m : ExprMove) where
  pub some_so : (o : Option ExprMove) → o ≡ Some m → IfSome o (λ x. IsShaped n e e' x) → IsShaped n e e' m
  some_so o is s = subst (λ o. IfSome o (λ x. IsShaped n e e' x)) is s

  pub moved_so : (x : Reached) → x ≡ reached.Moves m → IsReachedSo n e e' x → IsShaped n e e' m
  moved_so x is s = subst (IsReachedSo n e e') is s

  pub keyed_so : (k : Keyed) → k ≡ key.Moves m → IsKeyedSo n e e' k → IsShaped n e e' m
  keyed_so k is s = subst (IsKeyedSo n e e') is s
