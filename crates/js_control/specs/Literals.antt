-- `this`, literals and function expressions (ECMA-262 edition 5.1, 11.1, 13).
use Rattle.std.specs.Prelude.{ℕ, Bool, List, if◌then◌else◌}
use Rattle.js_value.specs.declared.value.Value.{Value}
use Rattle.js_value.specs.declared.value.Value.TheVariants as value
use Rattle.js_heap.specs.World.{World}
use Rattle.js_heap.specs.declared.class.Code.{Code}
use Rattle.js_reference.specs.Errors.{next_object}
use Rattle.js_reference.specs.declared.error.ErrorName.TheVariants.{RangeError}
use Rattle.js_reference.specs.Functions.{objects_of_function, with_function}
use Rattle.js_reference.specs.Room.{objects_fit}
use Rattle.js_operations.specs.Literals.{array_literal, object_literal}
use Rattle.js_term.specs.declared.context.Context.{Context}
use Rattle.js_term.specs.Place.{Place}
use Rattle.js_term.specs.Place.Place.{At, Host}
use Rattle.js_operands.specs.Made.{Made}
use Rattle.js_operands.specs.Made.Made.{Gives}
use Rattle.js_operands.specs.Steps.{gives, throws}

-- the function that begins at a place, in a context
abbrev pub code_at : Place → Context → Code
code_at (At x u) c = record { text = x; node = u; scope = c.scope }
code_at Host c = record { text = c.text; node = 0; scope = c.scope }

module _ {H : Type 0} (p : Place) (c : Context) (w : World) (h : H) where
  -- 11.1.1
  abbrev pub this_row : Made H
  this_row = Gives c.this w h

  -- 13: a new function, in the scope where it stands
  abbrev pub function_row : Made H
  function_row =
      if objects_fit w objects_of_function
      then Gives (value.Ref (next_object w)) (with_function w (code_at p c)) h
      else throws RangeError w h

module _ {H : Type 0} (w : World) (h : H) where
  -- 11.1.4, by which of the elements are there
  abbrev pub array_row : List Bool → List Value → Made H
  array_row es vs = gives (array_literal w h es vs)

  -- 11.1.5, by the keys
  abbrev pub object_row : List (List ℕ) → List Value → Made H
  object_row ks vs = gives (object_literal w h ks vs)
