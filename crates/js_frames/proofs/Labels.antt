-- The labels directly around the operands of a node's row, and where these are evaluated.
use Rattle.std.proofs.Common.{◌≡◌, ℕ, List, [], Option, Some, None, refl, ap, sym}
use Rattle.std.proofs.Common.{◌∙◌}
use Rattle.std.specs.Prelude.{unwrap_or}
use Rattle.std.specs.Option.{option_map}
use Rattle.js_operands.specs.Rows.{ExprRow}
use Rattle.js_operands.specs.Syntax.{expr_row}
use Rattle.js_rows.specs.Forms.{Form}
use Rattle.js_rows.specs.Hosted.{PageRow}
use Rattle.js_rows.specs.Row.Row.{Expression, Statement}
use Rattle.js_rows.specs.Syntax.{labels_of, row_of}
use Rattle.js_stmt.specs.Make.{inner_stmt, labels_inside}
use Rattle.js_stmt.specs.Rows.{StmtRow}
use Rattle.js_stmt.specs.Rows.StmtRow.{Free}
use Rattle.js_stmt.specs.Syntax.{name_of_target, stmt_row}
use Rattle.js_stmt.specs.Variables.{Initialised, first_initialised, row_at}
use Rattle.js_term.specs.Operands.{Labels}
use Rattle.js_term.specs.Place.{Place}
use Rattle.js_term.specs.declared.context.Context.{Context}
use Rattle.js_tree.specs.Arena.{Arena}
use Rattle.js_tree.specs.Runs.{labels_before}
use Rattle.js_tree.specs.TreeAt.{tree_at, tree_of}
use Rattle.js_tree.specs.Trees.{Tree, declarators, parts, production_of}
use Rattle.js_tree.specs.declared.node.Node.{Node}
use Rattle.js_tree.specs.declared.node.Node.TheVariants as node

-- the row of a statement's production, or one without a step
abbrev pub stmt_or_free : Option StmtRow → StmtRow
stmt_or_free o = unwrap_or o Free

var-labels : (o : Option Initialised) → labels_inside (row_at o) ≡ []
var-labels (Some d) = refl
var-labels None = refl

var-inner : (o : Option Initialised) (c : Context) → inner_stmt (row_at o) c ≡ c
var-inner (Some d) c = refl
var-inner None c = refl

module _ (ls : Labels) (s : Tree) where
  abbrev over : Option (List ℕ) → StmtRow
  over o = stmt_or_free (option_map (λ k. StmtRow.ForIn k s ls) o)

  over-labels : (o : Option (List ℕ)) → labels_inside (over o) ≡ []
  over-labels (Some k) = refl
  over-labels None = refl

  over-inner : (o : Option (List ℕ)) (c : Context) → inner_stmt (over o) c ≡ c
  over-inner (Some k) c = refl
  over-inner None c = refl

module _ (a : Arena) (ls : Labels) where
  abbrev pub part : Node → Tree
  part n = tree_of a (parts n)

  abbrev pub begun : Node → StmtRow
  begun n = stmt_or_free (stmt_row ls (production_of n) (part n))

  -- its operands run where it does
  pub inner-begun : (n : Node) (c : Context) → inner_stmt (begun n) c ≡ c
  inner-begun (node.Var ds) c = var-inner (first_initialised (tree_of a (declarators ds))) c
  inner-begun (node.ForIn x e s) c = over-inner ls (tree_at a s) (name_of_target (tree_at a x)) c
  inner-begun n c = refl

  pub labels-begun : (n : Node) → labels_inside (begun n) ≡ labels_before (production_of n)
      (part n) ls
  labels-begun (node.Var ds) = var-labels (first_initialised (tree_of a (declarators ds)))
  labels-begun (node.ForIn x e s) = over-labels ls (tree_at a s) (name_of_target (tree_at a x))
  labels-begun n = refl

-- the labels of a row of either kind
abbrev pub either : {D : Type 0} → Place → Option ExprRow → Option StmtRow → PageRow D
either p (Some r) o = record { place = p; row = Expression r }
either p None o = record { place = p; row = Statement (stmt_or_free o) }

-- an expression has no labels around its operands, and no statement has its production
module _ (D : Type 0) (a : Arena) where
  expr-before : (r : ExprRow) (n : Node) (ls : Labels) → expr_row (production_of n)
      (part a ls n) ≡ Some r
      → labels_before (production_of n) (part a ls n) ls ≡ []
  expr-before r (node.Labelled l s) ls e = cc
  expr-before r n ls e = refl

  either-labels : (p : Place) (n : Node) (ls : Labels) (o : Option ExprRow) → expr_row
      (production_of n) (part a ls n) ≡ o
      → labels_of (either {D = D} p o (stmt_row ls (production_of n)
      (part a ls n))) ≡ labels_before (production_of n) (part a ls n) ls
  either-labels p n ls (Some r) e = sym (expr-before r n ls e)
  either-labels p n ls None e = labels-begun a ls n

  row-either : (p : Place) (n : Node) (ls : Labels) (o : Option ExprRow) (q : Option StmtRow)
      → expr_row (production_of n) (part a ls n) ≡ o
      → stmt_row ls (production_of n) (part a ls n) ≡ q → row_of ls p (production_of n)
      (part a ls n) ≡ either {D = D} p o q
  row-either p n ls (Some r) q e g = rw e refl
  row-either p n ls None (Some r) e g = rw (e, g) refl
  row-either p n ls None None e g = rw (e, g) refl

  -- the row of a node is that of an expression, or of a statement
  pub row-by : (p : Place) (n : Node) (ls : Labels) (o : Option ExprRow) → expr_row
      (production_of n) (part a ls n) ≡ o
      → row_of ls p (production_of n) (part a ls n) ≡ either {D = D} p o (stmt_row ls
      (production_of n) (part a ls n))
  row-by p n ls o e = row-either p n ls o (stmt_row ls (production_of n) (part a ls n)) e refl

  pub labels-own : (p : Place) (n : Node) (ls : Labels)
      → labels_of (row_of {F = Form D} ls p (production_of n) (part a ls n)) ≡ labels_before
      (production_of n) (part a ls n) ls
  labels-own p n ls =
      let o = expr_row (production_of n) (part a ls n) in
      ap labels_of (row-by p n ls o refl) ∙ either-labels p n ls o refl
