-- `&&`, `||`, `?:` and the comma (ECMA-262 edition 5.1, 11.11, 11.12, 11.14): the first operand
-- stays, or the next part stands in the node's place.
use Rattle.std.specs.Prelude.{List, if◌then◌else◌}
use Rattle.js_value.specs.Image.{to_boolean}
use Rattle.js_value.specs.declared.value.Value.{Value}
use Rattle.js_heap.specs.World.{World}
use Rattle.js_tree.specs.Trees.{Tree}
use Rattle.js_operands.specs.Made.{Made}
use Rattle.js_operands.specs.Made.Made.{Gives, Becomes}
use Rattle.js_operands.specs.Steps.{operand_at}

module _ {H : Type 0} (w : World) (h : H) where
  abbrev pub and_row : Tree → List Value → Made H
  and_row right vs =
      let a : Value = operand_at vs 0 in
      if to_boolean a then Becomes right w h else Gives a w h

  abbrev pub or_row : Tree → List Value → Made H
  or_row right vs =
      let a : Value = operand_at vs 0 in
      if to_boolean a then Gives a w h else Becomes right w h

  abbrev pub conditional_row : (chosen otherwise : Tree) → List Value → Made H
  conditional_row t u vs =
      if to_boolean (operand_at vs 0) then Becomes t w h else Becomes u w h

  abbrev pub comma_row : Tree → Made H
  comma_row right = Becomes right w h
