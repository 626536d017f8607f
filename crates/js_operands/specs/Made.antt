-- What a step makes of its node, as plain data: it names no other row than its own and those that
-- the node goes on as.
use Rattle.std.specs.Prelude.{List}
use Rattle.js_value.specs.declared.value.Value.{Value}
use Rattle.js_heap.specs.World.{World}
use Rattle.js_host.specs.declared.call.NativeCall.{NativeCall}
use Rattle.js_tree.specs.Trees.{Tree}
use Rattle.js_operands.specs.Rows.{ExprRow}
use Rattle.js_operands.specs.declared.row.Method.{Method}

-- The conversion of an object, behind one of its steps. Fails: no method is left, and this is
-- thrown. Tries: this method of the object is called on it, and if it answers no primitive value,
-- these are tried next.
pub data Conversion : Type 0 where
  Fails : (thrown : Value) → Conversion
  Tries : (object method : Value) → List Method → Conversion

-- Gives: the value stands in the node's place. Throws: so does the throw. Becomes: so does a part
-- of the text. Converting: so does a conversion. GoesOn: the node goes on as that row, over these
-- values and then these parts of the text. Converts: the node stays as that row, and between these
-- values one of its operands is in conversion. Calls: a call or `new` of this
-- callee, whose operands are values. Each with
-- the world and the host after it.
pub data Made (H : Type 0) : Type 0 where
  Gives : Value → World → H → Made H
  Throws : Value → World → H → Made H
  Becomes : Tree → World → H → Made H
  Converting : Conversion → World → H → Made H
  GoesOn : ExprRow → List Value → List Tree → World → H → Made H
  Converts : ExprRow → (before : List Value) → Conversion → (behind : List Value) → World → H → Made H
  Calls : (callee : Value) → NativeCall → World → H → Made H
