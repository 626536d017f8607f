-- When bytes are refused.
use Rattle.std.specs.Prelude.{ℕ, List}
use Rattle.mug_text.specs.Text.{StopsAt}
use Rattle.mug_text.specs.declared.text.TextFault.{TextFault}
use Rattle.mug_text.specs.declared.text.TextFault.TheVariants.{NotUtf8, NoMemory}

-- the place is the first at which no sequence begins; nothing is said of when memory is out
abbrev pub Refuses : TextFault → List ℕ → Type 0
Refuses (NotUtf8 place) bytes = StopsAt bytes place
Refuses NoMemory bytes = Unit {0}
