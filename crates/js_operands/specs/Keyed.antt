-- What code says of a member's key.
use Rattle.std.specs.Prelude.{◌≡◌, ℕ, List, Option}
use Rattle.js_value.specs.declared.value.Value.{Value}
use Rattle.js_ops.specs.Convert.{to_text}
use Rattle.js_heap.specs.World.{World}
use Rattle.js_reference.specs.Own.{OwnProperties}
use Rattle.js_term.specs.Evaluation.{Evaluation}
use Rattle.js_tree.specs.Arena.{Arena}
use Rattle.js_operands.specs.Conversions.{keyed}
use Rattle.js_operands.specs.ExprMoves.{made_of, move_names}
use Rattle.js_operands.specs.Made.{Made}
use Rattle.js_operands.specs.Rows.{ExprRow}
use Rattle.js_operands.specs.Shapes.{IsShaped}
use Rattle.js_operands.specs.Steps.{operand_at}
use Rattle.js_operands.specs.declared.keys.Keyed.{Keyed}
use Rattle.js_operands.specs.declared.keys.Keyed.TheVariants as key
use Rattle.js_operands.specs.declared.row.Phase.{Phase}

module _ {H : Type 0} (O : OwnProperties H) (w : World) (h : H) (e : Evaluation) where
  -- the base is neither undefined nor null, and the key is a primitive value with this text
  pub record IsReady (k : List ℕ) (e' : Evaluation) (w' : World) : Type 0 where
    pub made : (r : ExprRow) (made : Made H) → keyed O w h r e.done made ≡ made
    pub text : k ≡ to_text (operand_at e.done 1)
    pub same : e' ≡ e
    pub world : w' ≡ w

  abbrev pub IsKeyed : Keyed → Evaluation → World → Type 0
  IsKeyed (key.Ready k) e' w' = IsReady k e' w'
  IsKeyed (key.Moves m) e' w' =
      (a : Arena) (r : ExprRow) (made : Made H)
      → keyed O w h r e.done made ≡ made_of a r e' m w' h

-- what it names, in front of others
abbrev pub keyed_names : Keyed → List Value → List Value
keyed_names (key.Ready k) vs = vs
keyed_names (key.Moves m) vs = move_names m vs

-- how the node is left where it waits for its key
abbrev pub IsKeyedSo : Option Phase → (e e' : Evaluation) → Keyed → Type 0
IsKeyedSo n e e' (key.Ready k) = Unit {0}
IsKeyedSo n e e' (key.Moves m) = IsShaped n e e' m
