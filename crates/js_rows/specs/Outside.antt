-- What stands outside of the language: the host's properties and natives, and the functions of the
-- texts.
use Rattle.std.specs.Prelude.{ℕ, Bool, List, Option}
use Rattle.js_value.specs.declared.value.NativeId.{NativeId}
use Rattle.js_value.specs.declared.value.Value.{Value}
use Rattle.js_ops.specs.declared.equality.Hint.{Hint}
use Rattle.js_heap.specs.World.{World}
use Rattle.js_host.specs.declared.call.NativeCall.{NativeCall}
use Rattle.js_reference.specs.Own.{OwnProperties}
use Rattle.js_term.specs.declared.completion.Completion.{Completion}
use Rattle.js_term.specs.declared.context.Context.{Context}
use Rattle.js_term.specs.Place.{Place, Placed}
use Rattle.js_term.specs.Table.{Step}
use Rattle.js_tree.specs.Trees.{Tree}
use Rattle.js_rows.specs.Row.{Row}

-- own, wants, asks, handler: as the rows are given them. refuses: whether a native may not be called
-- so. function: the function that begins at a unit of a text. native: what a call of a native comes
-- to, whose arguments are converted. make, meets: the rows of the forms that no text has.
pub record Outside (F H : Type 0) : Type 0 where
  pub own : OwnProperties H
  pub wants : NativeId → (construct : Bool) → ℕ → Option Hint
  pub asks : NativeId → Bool
  pub refuses : NativeId → (construct : Bool) → Bool
  pub handler : World → H → (name : List ℕ) → Value → World × H
  pub function : (text unit : ℕ) → Tree
  pub native : World → H → NativeId → NativeCall → Step (Placed (Row F)) H
  pub make : Place → Context → World → H → F → List Value → Step (Placed (Row F)) H
  pub meets : Place → Context → World → H → F → Completion → Step (Placed (Row F)) H
