use Rattle.js_stmt.proofs.Later.{finally_begins, goes_on, names_begin}
use Rattle.js_stmt.proofs.laws.a_statement_goes_on_as_its_node.Goals as goal

pub returns : goal.returns
returns c = record {
  phase = goes_on;
  names = λ a x id outermost r k v xs lent is. names_begin a x x id outermost r k v xs lent is;
  finally = finally_begins;
}
