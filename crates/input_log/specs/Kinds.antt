-- The kinds of items.
use Rattle.std.specs.Prelude.{Bool, true, false}
use Rattle.input_log.specs.declared.item.LogItem.{LogItem}
use Rattle.input_log.specs.declared.item.LogItem.TheVariants.{Head, Load, Now, Rand}
use Rattle.input_log.specs.declared.item.Word.{Word}
use Rattle.input_log.specs.declared.item.Word.TheVariants as word

-- the item that begins a session
abbrev pub is_head : LogItem → Bool
is_head (Head base budget page) = true
is_head (Load t) = false
is_head (Now v) = false
is_head (Rand w) = false

-- an item that logs an input of the page
abbrev pub is_input : LogItem → Bool
is_input (Head base budget page) = false
is_input (Load t) = true
is_input (Now v) = true
is_input (Rand w) = true

-- the word by which a list names an item
abbrev pub word_of : LogItem → Word
word_of (Head base budget page) = word.Head
word_of (Load t) = word.Load
word_of (Now v) = word.Now
word_of (Rand w) = word.Rand
