-- The row of a node of a statement, from the labels that stand directly around it, its production and its parts. None of an expression, and of what no
-- text has.
use Rattle.std.specs.Prelude.{ℕ, List, Option, Some, None}
use Rattle.std.specs.Option.{option_map}
use Rattle.js_tree.specs.declared.production.Production.{Production}
use Rattle.js_tree.specs.declared.production.Production.TheVariants as production
use Rattle.js_tree.specs.Runs.{labels_before}
use Rattle.js_tree.specs.Trees.{Tree}
use Rattle.js_tree.specs.Trees.Tree.{Made, Missing, Word}
use Rattle.js_term.specs.Operands.{Labels}
use Rattle.js_stmt.specs.Rows.{Loop, StmtRow}
use Rattle.js_stmt.specs.Variables.{row_of_var}

abbrev pub loop_of : Labels → (start test update body : Tree) → Loop
loop_of labels a b c s = record { start = a; test = b; update = c; body = s; labels = labels }

-- a text that stands as a part
abbrev pub word_in : Tree → Option (List ℕ)
word_in (Word x) = Some x
word_in t = None

-- the variable of a for-in: a name, or a `var` of one name
abbrev pub name_of_target : Tree → Option (List ℕ)
name_of_target (Made production.Name u v (Tree.Cons (Word x) ts)) = Some x
name_of_target (Made production.Var u v (Tree.Cons (Tree.Cons (Tree.Cons (Word x) rest) ds) ts)) = Some x
name_of_target t = None

-- a node of this production with these parts
abbrev pub stmt_row : Labels → Production → Tree → Option StmtRow
stmt_row labels production.Block ts = Some StmtRow.Free
stmt_row labels production.Var (Tree.Cons ds ts) = Some (row_of_var ds)
stmt_row labels production.Empty ts = Some StmtRow.Free
stmt_row labels production.Expression ts = Some StmtRow.Free
stmt_row labels production.Declaration ts = Some StmtRow.Free
stmt_row labels production.If (Tree.Cons e (Tree.Cons s (Tree.Cons t ts))) = Some (StmtRow.If s t)
stmt_row labels production.DoWhile (Tree.Cons s (Tree.Cons e ts)) = Some (StmtRow.DoWhile (loop_of labels Missing e Missing s))
stmt_row labels production.While (Tree.Cons e (Tree.Cons s ts)) = Some (StmtRow.While (loop_of labels Missing e Missing s))
stmt_row labels production.For (Tree.Cons a (Tree.Cons b (Tree.Cons c (Tree.Cons s ts)))) = Some (StmtRow.For (loop_of labels a b c s))
stmt_row labels production.ForIn (Tree.Cons x (Tree.Cons e (Tree.Cons s ts))) = option_map (λ k. StmtRow.ForIn k s labels) (name_of_target x)
stmt_row labels production.Continue (Tree.Cons l ts) = Some (StmtRow.Continue (word_in l))
stmt_row labels production.Break (Tree.Cons l ts) = Some (StmtRow.Break (word_in l))
stmt_row labels production.Return ts = Some StmtRow.Return
stmt_row labels production.Labelled (Tree.Cons (Word l) ts) = Some (StmtRow.Labelled l (labels_before production.Labelled (Tree.Cons (Word l) ts) labels))
stmt_row labels production.Switch (Tree.Cons e (Tree.Cons cs ts)) = Some (StmtRow.Switch cs labels)
stmt_row labels production.Throw ts = Some StmtRow.Throw
stmt_row labels production.Try (Tree.Cons ss (Tree.Cons k (Tree.Cons f ts))) = Some (StmtRow.Try k f)
stmt_row labels p ts = None
