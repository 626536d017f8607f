-- `var` and `if` (ECMA-262 edition 5.1, 12.2, 12.5). Declarators without an initialiser are passed
-- over; the names are in the scope by then.
use Rattle.std.specs.Prelude.{ℕ, List, [], ◌∷◌, Option, Some, None, if◌then◌else◌}
use Rattle.js_value.specs.Image.{to_boolean}
use Rattle.js_value.specs.declared.value.Value.{Value}
use Rattle.js_heap.specs.World.{World}
use Rattle.js_heap.specs.declared.class.ScopeId.{ScopeId}
use Rattle.js_reference.specs.Names.{write_name}
use Rattle.js_reference.specs.Own.{OwnProperties}
use Rattle.js_tree.specs.Trees.{Tree}
use Rattle.js_tree.specs.Trees.Tree.{Missing, Word}
use Rattle.js_stmt.specs.Made.{Made, Progress, made}
use Rattle.js_stmt.specs.Made.Progress.{Becomes, Finishes, GoesOn}
use Rattle.js_stmt.specs.Rows.{StmtRow}
use Rattle.js_stmt.specs.Rows.StmtRow.{Free, Var}
use Rattle.js_stmt.specs.Steps.{goes_on}

-- a declarator with an initialiser, and the declarators behind it
pub record Initialised : Type 0 where
  pub name : List ℕ
  pub value : Tree
  pub rest : Tree

-- the first of them
abbrev pub first_initialised : (declarators : Tree) → Option Initialised
first_initialised (Tree.Cons (Tree.Cons (Word x) (Tree.Cons Missing r)) ds) = first_initialised ds
first_initialised (Tree.Cons (Tree.Cons (Word x) (Tree.Cons e r)) ds) =
    Some (record { name = x; value = e; rest = ds })
first_initialised t = None

-- a `var` without initialisers has no step
abbrev pub row_at : Option Initialised → StmtRow
row_at (Some d) = Var d.name d.rest
row_at None = Free

abbrev pub row_of_var : (declarators : Tree) → StmtRow
row_of_var ds = row_at (first_initialised ds)

-- the next initialiser is evaluated, or the statement is finished
abbrev pub next_declared : Option Initialised → Progress
next_declared (Some d) = GoesOn (Var d.name d.rest) [] (d.value ∷ [])
next_declared None = Finishes

module _ {H : Type 0} (O : OwnProperties H) (s : Option ScopeId) (w : World) (h : H) where
  abbrev pub var_row : List ℕ → (rest : Tree) → Option Value → Made H
  var_row x rest (Some v) =
      goes_on (next_declared (first_initialised rest)) (write_name O w h s x v)
  var_row x rest None = made Finishes w h

-- the chosen part stands in the statement's place; one that isn't there finishes it
abbrev pub if_row : (chosen otherwise : Tree) → Option Value → Progress
if_row t u (Some v) = if to_boolean v then Becomes t else Becomes u
if_row t u None = Finishes
