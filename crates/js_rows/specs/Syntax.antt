-- The rows of syntax, and the term of a tree.
use Rattle.std.specs.Prelude.{Bool, false, [], Option, Some, None}
use Rattle.js_term.specs.Operands.{Labels, term_of}
use Rattle.js_term.specs.Place.{Place, Placed}
use Rattle.js_term.specs.Term.{Term, Terms, node}
use Rattle.js_tree.specs.declared.production.Production.{Production}
use Rattle.js_tree.specs.Trees.{Tree}
use Rattle.js_operands.specs.Rows.{ExprRow}
use Rattle.js_operands.specs.Syntax.{expr_row}
use Rattle.js_stmt.specs.Make.{labels_inside, stmt_has_no_step}
use Rattle.js_stmt.specs.Rows.{StmtRow}
use Rattle.js_stmt.specs.Rows.StmtRow.{Free}
use Rattle.js_stmt.specs.Syntax.{stmt_row}
use Rattle.js_rows.specs.Row.{Row, placed, text_of}
use Rattle.js_rows.specs.Row.Row.{Expression, Statement, Form}

module _ {F : Type 0} where
  abbrev row_has_no_step : Row F → Bool
  row_has_no_step (Expression r) = false
  row_has_no_step (Statement r) = stmt_has_no_step r
  row_has_no_step (Form r) = false

  -- the rows that are finished as soon as their operands are
  abbrev pub has_no_step : Placed (Row F) → Bool
  has_no_step r = row_has_no_step r.row

  abbrev statement_or_nothing : Option StmtRow → Row F
  statement_or_nothing (Some r) = Statement r
  statement_or_nothing None = Statement Free

  abbrev expression_or : Option ExprRow → Row F → Row F
  expression_or (Some r) other = Expression r
  expression_or None other = other

  -- the row of a node, by the labels directly around it; what is no node of an expression or a statement has no step
  abbrev pub row_of : Labels → Place → Production → Tree → Placed (Row F)
  row_of labels p k ts = placed p (expression_or (expr_row k ts) (statement_or_nothing (stmt_row labels k ts)))

  abbrev row_labels : Row F → Labels
  row_labels (Statement r) = labels_inside r
  row_labels r = []

  -- the labels that stand directly around a row's operands
  abbrev pub labels_of : Placed (Row F) → Labels
  labels_of r = row_labels r.row

  -- the term of a tree of a place's text
  abbrev pub term_at : Place → Tree → Term (Placed (Row F))
  term_at p t = term_of has_no_step row_of (text_of p) [] t

  abbrev pub statement_node : Place → StmtRow → Terms (Placed (Row F)) → Term (Placed (Row F))
  statement_node p r ts = node has_no_step (placed p (Statement r)) ts

  abbrev pub expression_row : Place → ExprRow → Placed (Row F)
  expression_row p r = placed p (Expression r)
