-- What is there, of a list.
use Rattle.std.specs.Prelude.{List}
use Rattle.js_value.specs.declared.value.Value.{Value}
use Rattle.js_heap.specs.Closed.{Each, IsThere}
use Rattle.js_heap.specs.World.{World}

-- what these values name is there
abbrev pub AreThere : World → List Value → Type 0
AreThere w vs = Each (IsThere w) vs
