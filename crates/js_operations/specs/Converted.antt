-- Which operands are converted.
use Rattle.std.specs.Prelude.{Option, Some, None}
use Rattle.js_value.specs.Image.{IsPrimitive}
use Rattle.js_value.specs.declared.value.Value.{Value}
use Rattle.js_ops.specs.declared.equality.Hint.{Hint}

-- what is wanted by a hint is a primitive value
abbrev pub IsConverted : Option Hint → Value → Type 0
IsConverted None v = Unit {0}
IsConverted (Some k) v = IsPrimitive v
