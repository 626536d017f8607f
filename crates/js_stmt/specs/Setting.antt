-- How the rows of statements stand among all rows, and what later syntax is as a term.
use Rattle.js_term.specs.Place.{Place}
use Rattle.js_term.specs.Term.{Term, Terms}
use Rattle.js_tree.specs.Trees.{Tree}
use Rattle.js_stmt.specs.Rows.{StmtRow}

-- node: a row of a statement at a place over its operands, as a term; it is finished where the row
-- has no step and they are values. term: what a tree of the place's text is.
pub record Setting (R : Type 0) : Type 0 where
  pub node : Place → StmtRow → Terms R → Term R
  pub term : Place → Tree → Term R
