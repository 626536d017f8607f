-- What holds of the steps of some rows: that an assignment with an operator has read its target where
-- it goes on (ECMA-262 edition 5.1, 11.13.2), and that a request looks at no place.
use Rattle.std.specs.Prelude.{◌≡◌, ℕ, ◌<◌, false, true, List, [], ◌∷◌, ◌++◌, length}
use Rattle.js_value.specs.Image.{is_primitive}
use Rattle.js_value.specs.declared.value.Value.{Value}
use Rattle.js_ops.specs.Convert.{is_missing}
use Rattle.js_ops.specs.declared.equality.Hint.{Hint}
use Rattle.js_heap.specs.World.{World}
use Rattle.js_term.specs.declared.context.Context.{Context}
use Rattle.js_term.specs.Place.{Place}
use Rattle.js_tree.specs.Trees.{Tree}
use Rattle.js_tree.specs.declared.production.BinaryOperator.{BinaryOperator}
use Rattle.js_operands.specs.Made.{Made}
use Rattle.js_operands.specs.Rows.{ExprRow}
use Rattle.js_operands.specs.Setting.{HostFacts}
use Rattle.js_operands.specs.Steps.{operand_at}
use Rattle.js_operands.specs.declared.row.Method.{Method}
use Rattle.js_control.specs.Make.{made_expr}

-- vs, us: the operands of a node before it goes on, and behind that. Its target's value stands behind
-- the target's operands, of which the first is neither undefined nor null.
pub record IsRead (vs us : List Value) : Type 0 where
  pub base : is_missing (operand_at us 0) ≡ false
  pub value : Value
  pub behind : us ≡ vs ++ value ∷ []

-- `e.k op= e'` goes on as the row that computes
pub record IsMemberRead (o : BinaryOperator) (k : List ℕ) (r : ExprRow) (vs us : List Value)
    : Type 0 where
  pub row : r ≡ ExprRow.ComputeMember o k
  pub target : IsRead vs us

-- so does `e[k] op= e'`, whose key is a primitive value
pub record IsKeyRead (o : BinaryOperator) (r : ExprRow) (vs us : List Value) : Type 0 where
  pub row : r ≡ ExprRow.ComputeIndex o
  pub target : IsRead vs us
  pub key : 1 < length vs → is_primitive (operand_at us 1) ≡ true

module _ {H : Type 0} (F : HostFacts H) where
  abbrev pub MembersAreRead : Type 0
  MembersAreRead =
      (p : Place) (c : Context) (w w' : World) (h h' : H) (o : BinaryOperator) (k : List ℕ)
      (right : Tree) (r : ExprRow) (vs us : List Value) (ts : List Tree)
      → made_expr F p c w h (ExprRow.ReviseMember o k right) vs ≡ Made.GoesOn r us ts w' h'
      → IsMemberRead o k r vs us

  abbrev pub KeysAreRead : Type 0
  KeysAreRead =
      (p : Place) (c : Context) (w w' : World) (h h' : H) (o : BinaryOperator) (right : Tree)
      (r : ExprRow) (vs us : List Value) (ts : List Tree)
      → made_expr F p c w h (ExprRow.ReviseIndex o right) vs ≡ Made.GoesOn r us ts w' h'
      → IsKeyRead o r vs us

  -- of one row
  abbrev pub HasNoPlace : ExprRow → Type 0
  HasNoPlace r =
      (p q : Place) (c d : Context) (w : World) (h : H) (vs : List Value)
      → made_expr F p c w h r vs ≡ made_expr F q d w h r vs

  pub record RequestsHaveNoPlace : Type 0 where
    pub convert : (k : Hint) → HasNoPlace (ExprRow.Convert k)
    pub converting : (ms : List Method) → HasNoPlace (ExprRow.Converting ms)
    pub call : HasNoPlace ExprRow.CallOn
