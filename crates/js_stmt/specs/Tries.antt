-- `try` (ECMA-262 edition 5.1, 12.14). A finished block or catch costs a step, which is the one into
-- `finally` where there is one; a throw out of the block enters the catch in a scope of its own; any
-- other end is kept over `finally`, and brought back behind it. A completion out of `finally` takes
-- the place of what is kept.
use Rattle.std.specs.Prelude.{ℕ, List, [], Option, Some, None, length, if◌then◌else◌}
use Rattle.js_value.specs.declared.value.Value.{Value}
use Rattle.js_heap.specs.Scopes.{declare, with_scope}
use Rattle.js_heap.specs.World.{World}
use Rattle.js_heap.specs.declared.class.ScopeId.{ScopeId}
use Rattle.js_reference.specs.declared.error.ErrorName.TheVariants.{RangeError}
use Rattle.js_reference.specs.Room.{scopes_fit}
use Rattle.js_term.specs.declared.completion.Completion.{Completion}
use Rattle.js_term.specs.declared.completion.Completion.TheVariants.{Throw}
use Rattle.js_term.specs.Operands.{listed}
use Rattle.js_tree.specs.Trees.{Tree}
use Rattle.js_tree.specs.Trees.Tree.{Missing, Word}
use Rattle.js_stmt.specs.Made.{Made, Progress, made}
use Rattle.js_stmt.specs.Made.Progress.{Completes, Finishes, GoesOn}
use Rattle.js_stmt.specs.Rows.StmtRow.{Catch, Finally}
use Rattle.js_stmt.specs.Steps.{throws}

-- the scope that is made next
abbrev pub next_scope : World → ScopeId
next_scope w = record { number = length w.scopes }

-- with a scope of the one name that a catch binds
abbrev pub with_caught : World → Option ScopeId → (name : List ℕ) → Value → World
with_caught w parent x v = declare (with_scope w parent) (next_scope w) x v

-- what is kept is brought back; where nothing is, the statement is finished
abbrev pub finally_row : (kept : Option Completion) → Progress
finally_row (Some k) = Completes k
finally_row None = Finishes

-- into `finally`, or else the end at once
abbrev pub into_finally : (finally : Tree) → (kept : Option Completion) → Progress
into_finally Missing kept = finally_row kept
into_finally ss kept = GoesOn (Finally kept) [] (listed ss)

-- the block, or the catch, is finished
abbrev pub try_row : (finally : Tree) → Progress
try_row f = into_finally f None

abbrev pub catch_meets : (finally : Tree) → Completion → Progress
catch_meets f k = into_finally f (Some k)

module _ {H : Type 0} (s : Option ScopeId) (w : World) (h : H) where
  abbrev pub into_catch : (name : List ℕ) → (statements finally : Tree) → Value → Made H
  into_catch x ss f v =
      if scopes_fit w 1
      then made (GoesOn (Catch (next_scope w) f) [] (listed ss)) (with_caught w s x v) h
      else throws RangeError w h

  -- a throw out of the block
  abbrev pub throw_meets : (catch finally : Tree) → Value → Made H
  throw_meets (Tree.Cons (Word x) (Tree.Cons ss r)) f v = into_catch x ss f v
  throw_meets k f v = made (into_finally f (Some (Throw v))) w h

  abbrev pub try_meets : (catch finally : Tree) → Completion → Made H
  try_meets k f (Throw v) = throw_meets k f v
  try_meets k f e = made (into_finally f (Some e)) w h
