-- What the rows of expressions are given, and how they stand among all rows.
use Rattle.std.specs.Prelude.{ℕ, Bool, Option}
use Rattle.js_value.specs.declared.value.NativeId.{NativeId}
use Rattle.js_value.specs.declared.value.Value.{Value}
use Rattle.js_ops.specs.declared.equality.Hint.{Hint}
use Rattle.js_heap.specs.World.{World}
use Rattle.js_host.specs.declared.call.NativeCall.{NativeCall}
use Rattle.js_reference.specs.Own.{OwnProperties}
use Rattle.js_term.specs.Place.{Place}
use Rattle.js_term.specs.Table.{Step}
use Rattle.js_term.specs.Term.{Term}
use Rattle.js_tree.specs.Trees.{Tree}
use Rattle.js_operands.specs.Rows.{ExprRow}

-- What rows are told of the host. own: its properties. wants: what a native wants of `this`, at 0,
-- and of its arguments, from 1 on, called or constructed: the hint by which an object there is
-- converted before the call.
pub record HostFacts (H : Type 0) : Type 0 where
  pub own : OwnProperties H
  pub wants : NativeId → (construct : Bool) → ℕ → Option Hint

-- facts: of the host. row: a row of an expression at a place, as one of all rows. term: what a tree
-- of the place's text is. call: what a call comes to.
pub record Setting (R H : Type 0) : Type 0 where
  pub facts : HostFacts H
  pub row : Place → ExprRow → R
  pub term : Place → Tree → Term R
  pub call : Place → World → H → (callee : Value) → NativeCall → Step R H
