-- The table of all rows, in a run without hidden code.
use Rattle.std.specs.Prelude.{Bool, false, List, None}
use Rattle.js_value.specs.declared.value.Value.{Value}
use Rattle.js_value.specs.declared.value.Value.TheVariants as value
use Rattle.js_heap.specs.World.{World}
use Rattle.js_term.specs.declared.completion.Completion.{Completion}
use Rattle.js_term.specs.declared.context.Context.{Context}
use Rattle.js_term.specs.Place.{Place, Placed}
use Rattle.js_term.specs.Table.{Step, Table}
use Rattle.js_term.specs.Table.Step.{Gives}
use Rattle.js_term.specs.Term.{Terms}
use Rattle.js_term.specs.Term.Term.{Val}
use Rattle.js_control.specs.Make.{expr_is_early, make_early, make_expr, meets_expr}
use Rattle.js_stmt.specs.Make.{inner_stmt, make_stmt, meets_stmt}
use Rattle.js_rows.specs.Calls.{for_expressions, for_statements}
use Rattle.js_rows.specs.Outside.{Outside}
use Rattle.js_rows.specs.Row.{Row}
use Rattle.js_rows.specs.Row.Row.{Expression, Statement, Form}
use Rattle.js_rows.specs.Syntax.{has_no_step}

module _ {F H : Type 0} (O : Outside F H) where
  abbrev pub inner_row : Row F → Context → Context
  inner_row (Statement r) c = inner_stmt r c
  inner_row r c = c

  abbrev pub row_is_early : Row F → List Value → Bool
  row_is_early (Expression r) vs = expr_is_early r vs
  row_is_early r vs = false

  module _ (p : Place) (c : Context) (w : World) (h : H) where
    abbrev pub early_row : Row F → List Value → Terms (Placed (Row F)) → Step (Placed (Row F)) H
    early_row (Expression r) vs ts = make_early (for_expressions O) p c w h r vs ts
    early_row r vs ts = Gives (Val value.Undefined) w h

    abbrev pub make_row : Row F → List Value → Step (Placed (Row F)) H
    make_row (Expression r) vs = make_expr (for_expressions O) p c w h r vs
    make_row (Statement r) vs = make_stmt for_statements O.own p c w h r vs
    make_row (Form r) vs = O.make p c w h r vs

    abbrev pub meets_row : Row F → Completion → Step (Placed (Row F)) H
    meets_row (Expression r) k = meets_expr w h k
    meets_row (Statement r) k = meets_stmt for_statements O.own p c w h r k
    meets_row (Form r) k = O.meets p c w h r k

  abbrev pub all_rows : Table (Placed (Row F)) H
  all_rows = record {
    no_step = has_no_step;
    inner = λ r c. inner_row r.row c;
    is_early = λ r vs. row_is_early r.row vs;
    early = λ c w h r vs ts. early_row r.place c w h r.row vs ts;
    make = λ c w h r vs. make_row r.place c w h r.row vs;
    meets = λ c w h r k. meets_row r.place c w h r.row k;
    enters = λ c w h r vs. None;
    before = λ w h f r vs. None;
    behind = λ h f stopped. None;
  }
