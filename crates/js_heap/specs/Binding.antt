-- Names and their values.
use Rattle.std.specs.Prelude.{ℕ, List}
use Rattle.js_value.specs.declared.value.Value.{Value}

-- a name in a scope, by its units, and its value
pub record Binding : Type 0 where
  pub name : List ℕ
  pub value : Value
