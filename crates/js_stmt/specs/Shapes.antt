-- How a statement goes on: in a phase that its row has, and over parts of its text alone.
use Rattle.std.specs.Prelude.{◌≡◌, Bool, true, false, List, [], ◌∷◌, is_some}
use Rattle.js_value.specs.declared.value.Value.{Value}
use Rattle.js_term.specs.declared.operands.Operand.{Operand}
use Rattle.js_term.specs.declared.operands.Operand.TheVariants as operand
use Rattle.js_stmt.specs.CodeRows.{loop_in}
use Rattle.js_stmt.specs.declared.phase.StmtPhase.{StmtPhase}
use Rattle.js_stmt.specs.declared.phase.StmtPhase.TheVariants as phase
use Rattle.js_stmt.specs.declared.row.StmtRow.{StmtRow}
use Rattle.js_stmt.specs.declared.row.StmtRow.TheVariants as code
use Rattle.js_stmt.specs.declared.stmt_move.StmtMove.{StmtMove}
use Rattle.js_stmt.specs.declared.stmt_move.StmtMove.TheVariants as move

-- the values among operands to come
abbrev pub values_coming : List Operand → List Value
values_coming [] = []
values_coming (operand.Value v ∷ xs) = v ∷ values_coming xs
values_coming (operand.Node id ∷ xs) = values_coming xs

abbrev pub is_var : StmtRow → Bool
is_var (code.Var ds i) = true
is_var r = false

abbrev pub is_for_in : StmtRow → Bool
is_for_in (code.ForIn f) = true
is_for_in r = false

abbrev pub has_names : StmtRow → Bool
has_names (code.ForInNames f v ks i) = true
has_names r = false

abbrev pub has_clauses : StmtRow → Bool
has_clauses (code.Switch s) = true
has_clauses (code.Case s i) = true
has_clauses r = false

abbrev pub is_try : StmtRow → Bool
is_try (code.Try g) = true
is_try r = false

-- the row goes on in this phase
abbrev pub follows : StmtRow → StmtPhase → Bool
follows r phase.Begun = false
follows r (phase.Declared i) = is_var r
follows r phase.LoopStart = is_some (loop_in r)
follows r phase.LoopTest = is_some (loop_in r)
follows r phase.LoopBody = is_some (loop_in r)
follows r phase.LoopUpdate = is_some (loop_in r)
follows r (phase.Names i) = has_names r
follows r (phase.Case i) = has_clauses r
follows r phase.Clauses = has_clauses r
follows r (phase.Catch s) = is_try r
follows r phase.Finally = false
follows r phase.Body = false

-- a phase that a move names is one in which the row goes on, and names are a for-in's
abbrev pub IsNext : StmtRow → StmtMove → Type 0
IsNext r (move.GoesOn p) = follows r p ≡ true
IsNext r (move.Names v ks) = is_for_in r ≡ true
IsNext r m = Unit {0}

-- a node that goes on awaits no values
abbrev pub IsShaped : StmtMove → List Operand → Type 0
IsShaped (move.GoesOn p) xs = values_coming xs ≡ []
IsShaped (move.Names v ks) xs = values_coming xs ≡ []
IsShaped (move.Finally k) xs = values_coming xs ≡ []
IsShaped m xs = Unit {0}
