-- The inputs of a page, and the items that log them.
use Rattle.std.specs.Prelude.{List, [], ◌∷◌, map, flat_map}
use Rattle.page_inputs.specs.declared.input.PageInput.{PageInput}
use Rattle.page_inputs.specs.declared.input.PageInput.TheVariants as input
use Rattle.input_log.specs.declared.item.LogItem.{LogItem}
use Rattle.input_log.specs.declared.item.LogItem.TheVariants.{Head, Load, Now, Rand}

-- the item that logs an input
abbrev pub item_of : PageInput → LogItem
item_of (input.Load t) = Load t
item_of (input.Now v) = Now v
item_of (input.Rand w) = Rand w

-- the items that log these inputs
abbrev pub logged : List PageInput → List LogItem
logged inputs = map item_of inputs

-- the input that an item logs; a head logs none
abbrev pub inputs_in : LogItem → List PageInput
inputs_in (Head base budget page) = []
inputs_in (Load t) = input.Load t ∷ []
inputs_in (Now v) = input.Now v ∷ []
inputs_in (Rand w) = input.Rand w ∷ []

-- the inputs that these items log, in their order
abbrev pub inputs_of : List LogItem → List PageInput
inputs_of items = flat_map inputs_in items
