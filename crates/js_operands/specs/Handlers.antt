-- The write of a callable to a handler: a point of its own, at which an inserted script may come first.
use Rattle.std.specs.Prelude.{ℕ, Bool, true, false, not, ◌&&◌, List}
use Rattle.std.specs.Option.{option_map_or}
use Rattle.js_value.specs.declared.value.ObjId.{ObjId}
use Rattle.js_value.specs.declared.value.Value.{Value}
use Rattle.js_value.specs.declared.value.Value.TheVariants as value
use Rattle.js_ops.specs.Convert.{to_text}
use Rattle.js_heap.specs.World.{World}
use Rattle.js_reference.specs.Callables.{as_object, is_callable}
use Rattle.js_reference.specs.Names.{name_owner}
use Rattle.js_reference.specs.Own.{OwnProperties}
use Rattle.js_term.specs.declared.context.Context.{Context}
use Rattle.js_operands.specs.Rows.{ExprRow}
use Rattle.js_operands.specs.Rows.ExprRow.{AssignIndex, AssignMember, AssignName}
use Rattle.js_operands.specs.Steps.{operand_at}

abbrev pub is_wrap : Value → Bool
is_wrap (value.Wrap n c) = true
is_wrap v = false

module _ {H : Type 0} (O : OwnProperties H) (w : World) (h : H) where
  -- a callable that is no wrap is written to a handler of the object
  abbrev pub sets_handler_of : List ℕ → Value → ObjId → Bool
  sets_handler_of x v o = O.sets_handler w h o x && (is_callable w v && not (is_wrap v))

module _ {H : Type 0} (O : OwnProperties H) (c : Context) (w : World) (h : H) where
  -- so is it by a node of this row over these values
  abbrev pub sets_handler : ExprRow → List Value → Bool
  sets_handler (AssignName x) vs =
      option_map_or (sets_handler_of O w h x (operand_at vs 0)) (name_owner w c.scope x) false
  sets_handler (AssignMember k) vs =
      option_map_or (sets_handler_of O w h k (operand_at vs 1)) (as_object (operand_at vs 0)) false
  sets_handler AssignIndex vs =
      option_map_or (sets_handler_of O w h (to_text (operand_at vs 1)) (operand_at vs 2))
      (as_object (operand_at vs 0)) false
  sets_handler r vs = false
