-- A row of any kind, at a place.
use Rattle.std.specs.Prelude.{ℕ}
use Rattle.js_term.specs.Place.{Place, Placed}
use Rattle.js_term.specs.Place.Place.{At, Host}
use Rattle.js_operands.specs.Rows.{ExprRow}
use Rattle.js_stmt.specs.Rows.{StmtRow}

-- a row of an expression, of a statement or a function's body, or a form that no text has: an entered native, a dispatch, a turn
pub data Row (F : Type 0) : Type 0 where
  Expression : ExprRow → Row F
  Statement : StmtRow → Row F
  Form : F → Row F

abbrev pub placed : {F : Type 0} → Place → Row F → Placed (Row F)
placed p r = record { place = p; row = r }

-- the text of a place; what stands in no text evaluates no syntax
abbrev pub text_of : Place → ℕ
text_of (At x u) = x
text_of Host = 0
