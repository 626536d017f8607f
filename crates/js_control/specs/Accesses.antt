-- Names and properties that are read and deleted (ECMA-262 edition 5.1, 11.1.2, 11.2.1, 11.4.1). A
-- base that is undefined or null throws before the key is converted.
use Rattle.std.specs.Prelude.{ℕ, List}
use Rattle.js_value.specs.declared.value.Value.{Value}
use Rattle.js_ops.specs.Convert.{to_text}
use Rattle.js_heap.specs.World.{World}
use Rattle.js_reference.specs.Deletes.{delete}
use Rattle.js_reference.specs.Names.{read_name}
use Rattle.js_reference.specs.Own.{OwnProperties}
use Rattle.js_reference.specs.Properties.{read}
use Rattle.js_term.specs.declared.context.Context.{Context}
use Rattle.js_operands.specs.Made.{Made}
use Rattle.js_operands.specs.Rows.ExprRow.{Index, DeleteIndex}
use Rattle.js_operands.specs.Steps.{gives, operand_at}
use Rattle.js_operands.specs.Conversions.{keyed}

module _ {H : Type 0} (O : OwnProperties H) (c : Context) (w : World) (h : H) where
  abbrev pub name_row : List ℕ → Made H
  name_row x = gives (read_name O w h c.scope x)

module _ {H : Type 0} (O : OwnProperties H) (w : World) (h : H) where
  abbrev pub member_row : List ℕ → List Value → Made H
  member_row k vs = gives (read O w h (operand_at vs 0) k)

  abbrev pub index_row : List Value → Made H
  index_row vs =
      keyed O w h Index vs (gives (read O w h (operand_at vs 0) (to_text (operand_at vs 1))))

  abbrev pub delete_member_row : List ℕ → List Value → Made H
  delete_member_row k vs = gives (delete O w h (operand_at vs 0) k)

  abbrev pub delete_index_row : List Value → Made H
  delete_index_row vs =
      keyed O w h DeleteIndex vs
      (gives (delete O w h (operand_at vs 0) (to_text (operand_at vs 1))))
