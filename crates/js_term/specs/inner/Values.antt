-- The values among operands.
use Rattle.std.specs.Prelude.{List, [], ◌∷◌, Bool, true, false, Option, Some, None}
use Rattle.js_value.specs.declared.value.Value.{Value}
use Rattle.js_term.specs.declared.operands.Operand.{Operand}
use Rattle.js_term.specs.declared.operands.Operand.TheVariants as operand

abbrev pub values_in : List Operand → List Value
values_in [] = []
values_in (operand.Value v ∷ xs) = v ∷ values_in xs
values_in (operand.Node n ∷ xs) = values_in xs

-- each is a value
abbrev pub all_values : List Operand → Bool
all_values [] = true
all_values (operand.Value v ∷ xs) = all_values xs
all_values (operand.Node n ∷ xs) = false

-- the value that an operand is
abbrev pub value_in : Option Operand → Option Value
value_in (Some (operand.Value v)) = Some v
value_in o = None
