-- The rows of statements (ECMA-262 edition 5.1, clause 12) and of a function's body (13.2.1): a node with what its text says, in one of its phases.
-- What a node evaluates later its row has as trees. A row has also the values that a completion doesn't find any more among the operands: the object
-- that a for-in goes through, a completion that is kept, where a catch and a body run, and the object that `new` made.
use Rattle.std.specs.Prelude.{ℕ, List, Option}
use Rattle.js_value.specs.declared.value.Value.{Value}
use Rattle.js_heap.specs.declared.class.ScopeId.{ScopeId}
use Rattle.js_term.specs.declared.completion.Completion.{Completion}
use Rattle.js_term.specs.declared.context.Context.{Context}
use Rattle.js_term.specs.Operands.{Labels}
use Rattle.js_tree.specs.Trees.{Tree}

-- a loop's parts, Missing where they aren't there, and the labels that stand directly around it (12.6, 12.12)
pub record Loop : Type 0 where
  pub start : Tree
  pub test : Tree
  pub update : Tree
  pub body : Tree
  pub labels : Labels

pub data StmtRow : Type 0 where
  -- 12.1, 12.3, 12.4, 13, and a `var` without initialisers: the statements or the expression
  Free : StmtRow
  -- 12.2: the value of the name's initialiser; the declarators behind it
  Var : List ℕ → (rest : Tree) → StmtRow
  -- 12.5: the test
  If : (chosen otherwise : Tree) → StmtRow
  -- 12.6.1 to 12.6.3, before the first phase: none; in a phase: that part
  DoWhile : Loop → StmtRow
  While : Loop → StmtRow
  For : Loop → StmtRow
  LoopStart : Loop → StmtRow
  LoopTest : Loop → StmtRow
  LoopBody : Loop → StmtRow
  LoopUpdate : Loop → StmtRow
  -- 12.6.4: the value; with the keys that are left, none or the body
  ForIn : (name : List ℕ) → (body : Tree) → Labels → StmtRow
  ForInKeys : Value → (keys : List (List ℕ)) → (name : List ℕ) → (body : Tree) → Labels → StmtRow
  -- 12.7 to 12.9, 12.13: none; none; the value, where there is one; the value
  Continue : (label : Option (List ℕ)) → StmtRow
  Break : (label : Option (List ℕ)) → StmtRow
  Return : StmtRow
  Throw : StmtRow
  -- 12.12: the statement; the labels that stand directly around that
  Labelled : List ℕ → Labels → StmtRow
  -- 12.11: the value; the value and that of the first of these clauses; the statements from a clause on
  Switch : (clauses : Tree) → Labels → StmtRow
  Case : (clauses : Tree) → (left : Tree) → Labels → StmtRow
  SwitchBody : Labels → StmtRow
  -- 12.14: the statements of the block; of the catch; of the finally
  Try : (catch finally : Tree) → StmtRow
  Catch : ScopeId → (finally : Tree) → StmtRow
  Finally : (kept : Option Completion) → StmtRow
  -- 13.2.1: the statements
  Body : Context → (made : Option Value) → StmtRow
