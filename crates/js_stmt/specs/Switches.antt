-- `switch` (ECMA-262 edition 5.1, 12.11). The clauses with a test are looked at in their order,
-- `default` passed over; the first whose value is `===` to that of the switch enters the statements
-- from there on. Where none is, the statements from `default` on are entered.
use Rattle.std.specs.Prelude.{List, [], ◌∷◌, ◌++◌, Option, Some, None, if◌then◌else◌}
use Rattle.js_value.specs.Same.{same}
use Rattle.js_value.specs.declared.value.Value.{Value}
use Rattle.js_term.specs.declared.completion.Completion.{Completion}
use Rattle.js_term.specs.declared.completion.Completion.TheVariants.{Break}
use Rattle.js_term.specs.Operands.{Labels, listed}
use Rattle.js_tree.specs.Trees.{Tree}
use Rattle.js_tree.specs.Trees.Tree.{Missing}
use Rattle.js_stmt.specs.Made.{Progress}
use Rattle.js_stmt.specs.Made.Progress.{Completes, Finishes, GoesOn}
use Rattle.js_stmt.specs.Rows.StmtRow.{Case, SwitchBody}
use Rattle.js_stmt.specs.Steps.{takes}

-- the clauses from one with a test on
pub record Tested : Type 0 where
  pub test : Tree
  pub clauses : Tree

-- the first such
abbrev pub first_tested : (clauses : Tree) → Option Tested
first_tested (Tree.Cons (Tree.Cons Missing r) cs) = first_tested cs
first_tested (Tree.Cons (Tree.Cons t r) cs) =
    Some (record { test = t; clauses = Tree.Cons (Tree.Cons t r) cs })
first_tested t = None

-- the clauses from `default` on
abbrev pub from_default : (clauses : Tree) → Option Tree
from_default (Tree.Cons (Tree.Cons Missing r) cs) = Some (Tree.Cons (Tree.Cons Missing r) cs)
from_default (Tree.Cons k cs) = from_default cs
from_default t = None

abbrev pub behind_first : (clauses : Tree) → Tree
behind_first (Tree.Cons k cs) = cs
behind_first t = t

-- the statements of the clauses, one after the other
abbrev pub statements_of : (clauses : Tree) → List Tree
statements_of (Tree.Cons (Tree.Cons t (Tree.Cons ss r)) cs) = listed ss ++ statements_of cs
statements_of t = []

abbrev pub into_statements : Labels → Tree → Progress
into_statements labels cs = GoesOn (SwitchBody labels) [] (statements_of cs)

abbrev pub at_default : Labels → Option Tree → Progress
at_default labels (Some cs) = into_statements labels cs
at_default labels None = Finishes

-- the next clause's test is evaluated beside the value, or the search is at its end
abbrev pub at_clause : (clauses : Tree) → Labels → Value → Option Tested → Progress
at_clause cs labels v (Some k) = GoesOn (Case cs k.clauses labels) (v ∷ []) (k.test ∷ [])
at_clause cs labels v None = at_default labels (from_default cs)

abbrev pub switch_row : (clauses : Tree) → Labels → Option Value → Progress
switch_row cs labels (Some v) = at_clause cs labels v (first_tested cs)
switch_row cs labels None = Finishes

-- of the switch's value and that of the clause's test
abbrev pub case_row : (clauses left : Tree) → Labels → Option (Value × Value) → Progress
case_row cs left labels (Some vs) =
    if same vs.0 vs.1 then into_statements labels left
    else at_clause cs labels vs.0 (first_tested (behind_first left))
case_row cs left labels None = Finishes

abbrev pub switch_meets : Labels → Completion → Progress
switch_meets labels (Break label) = if takes labels label then Finishes else Completes (Break label)
switch_meets labels k = Completes k
