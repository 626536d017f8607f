-- How a node stands that waits for the conversion of one of its operands (ECMA-262 edition 5.1,
-- 8.12.8), and one that has computed what `op=` writes.
use Rattle.std.specs.Prelude.{◌≡◌, ℕ, suc, ◌≤◌, false, List, [], ◌∷◌, ◌++◌, drop, take}
use Rattle.js_value.specs.declared.value.Value.{Value}
use Rattle.js_heap.specs.World.{World}
use Rattle.js_term.specs.declared.context.Context.{Context}
use Rattle.js_term.specs.Place.{Place}
use Rattle.js_tree.specs.declared.production.BinaryOperator.{BinaryOperator}
use Rattle.js_operands.specs.Made.{Made}
use Rattle.js_operands.specs.Rows.{ExprRow}
use Rattle.js_operands.specs.Setting.{HostFacts}
use Rattle.js_control.specs.Calls.{on_window}
use Rattle.js_control.specs.Make.{expr_is_early, made_expr}

-- so many operands are those of the target of an operator that assigns, which aren't converted again
abbrev pub target_count : ExprRow → ℕ
target_count (ExprRow.ComputeMember o k) = 1
target_count (ExprRow.ComputeIndex o) = 2
target_count r = 0

-- a call that finds its `this` goes on as one that has it
abbrev pub waiting_row : ExprRow → ExprRow
waiting_row ExprRow.Call = ExprRow.CallOn
waiting_row r = r

abbrev pub waiting_values : ExprRow → List Value → List Value
waiting_values ExprRow.Call vs = on_window vs
waiting_values r vs = vs

-- r, vs: the node's row and operands. r': the row of the node that waits. us, xs: its operands in front
-- of the one in conversion, and behind it. It makes no early step.
pub record IsOver (r : ExprRow) (vs : List Value) (r' : ExprRow) (us xs : List Value) : Type 0
  where
    pub row : r' ≡ waiting_row r
    pub count : ℕ
    pub enough : target_count r ≤ count
    pub first : us ≡ take count (waiting_values r vs)
    pub rest : xs ≡ drop (suc count) (waiting_values r vs)
    pub late : (ys : List Value) → expr_is_early r' ys ≡ false

abbrev pub WaitsOver : {H : Type 0} → ExprRow → List Value → Made H → Type 0
WaitsOver r vs (Made.Converts r' us k xs w h) = IsOver r vs r' us xs
WaitsOver r vs m = Unit {0}

-- r', us: the row and the operands of the node that goes on
pub record HasComputed (n : ℕ) (next : ExprRow) (vs : List Value) (r' : ExprRow) (us : List Value)
    : Type 0 where
  pub row : r' ≡ next
  pub value : Value
  pub behind : us ≡ take n vs ++ value ∷ []

-- behind the target's operands, of which there are so many, stands what is written
abbrev pub ComputesInto : {H : Type 0} → ℕ → ExprRow → List Value → Made H → Type 0
ComputesInto n next vs (Made.GoesOn r' us ts w h) = HasComputed n next vs r' us
ComputesInto n next vs m = Unit {0}

module _ {H : Type 0} (F : HostFacts H) where
  abbrev pub RowsWait : Type 0
  RowsWait =
      (p : Place) (c : Context) (w : World) (h : H) (r : ExprRow) (vs : List Value)
      → WaitsOver r vs (made_expr F p c w h r vs)

  pub record RowsCompute : Type 0 where
    pub member : (p : Place) (c : Context) (w : World) (h : H) (o : BinaryOperator) (k : List ℕ)
        (vs : List Value) → ComputesInto 1 (ExprRow.AssignMember k) vs
        (made_expr F p c w h (ExprRow.ComputeMember o k) vs)
    pub key : (p : Place) (c : Context) (w : World) (h : H) (o : BinaryOperator) (vs : List Value)
        → ComputesInto 2 ExprRow.AssignIndex vs
        (made_expr F p c w h (ExprRow.ComputeIndex o) vs)
