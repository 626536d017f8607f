-- What `list` prints, and why it answers as it does.
use Rattle.std.specs.Prelude.{◌≡◌, ℕ, List, ◌++◌, length, flat_map, count_by, codes, decimal}
use Rattle.std.specs.Prelude.{IfSome}
use Rattle.mug_outside.specs.Told.{behind, TookLess, TookPart}
use Rattle.mug_outside.specs.Cause.{Rose}
use Rattle.mug_text.specs.Text.{shown_text}
use Rattle.input_log.specs.Kinds.{is_input}
use Rattle.input_log.specs.declared.item.LogItem.{LogItem}
use Rattle.input_log.specs.declared.item.LogItem.TheVariants.{Head, Load, Now, Rand}
use Rattle.session_store.specs.Recovery.{Whole, Recovers}
use Rattle.capture_engine.specs.Outside.{Shown}
use Rattle.mugshot_cli.specs.Outside.{IsUnwritten}
use Rattle.mugshot_cli.specs.Printing.{numbered_line}
use Rattle.mugshot_cli.specs.Sessions.{IsRefused}
use Rattle.mugshot_cli.specs.declared.listing.ListOutcome.{ListOutcome}
use Rattle.mugshot_cli.specs.declared.listing.ListOutcome.TheVariants.{Done, Refused, WriteFault}
use Rattle.mugshot_cli.specs.declared.listing.ListOutcome.TheVariants.{NoMemory}

-- the base as it is printed, the budget, and the number of the page's bytes
abbrev pub head_line : List ℕ → ℕ → ℕ → List ℕ
head_line base budget page_len =
    codes "head " ++ shown_text base ++ codes " " ++ decimal budget ++ codes " " ++ decimal page_len
    ++ codes "\n"

abbrev pub item_line : LogItem → List ℕ
item_line (Head base budget page) = head_line base budget (length page)
item_line (Load t) = numbered_line (codes "load ") t
item_line (Now v) = numbered_line (codes "now ") v
item_line (Rand w) = numbered_line (codes "rand ") w

-- the last line: the number of items, and of the inputs among them
abbrev pub records_line : ℕ → ℕ → List ℕ
records_line records inputs =
    codes "records " ++ decimal records ++ codes " inputs " ++ decimal inputs ++ codes "\n"

-- a line for each item, and the last line
abbrev pub list_text : List LogItem → List ℕ
list_text items = flat_map item_line items ++ records_line (length items) (count_by is_input items)

-- where the disk tells its bytes, they recover to items whose text is so
abbrev pub HasText : Shown → (List ℕ → Type 0) → Type 0
HasText before P =
    IfSome before.held
    (λ bytes. (items : List LogItem) × (end : ℕ) × Recovers bytes (Whole items end)
    × P (list_text items))

-- by the outcome: what the bytes recover to, what the output took, and which count rose
abbrev pub Listed : ListOutcome → Shown → Shown → Type 0
Listed Done before after = HasText before (λ text. after.taken ≡ behind text before.taken)
Listed (Refused why) before after =
    (after.taken ≡ before.taken) × IsRefused why before.held before.disk after.disk
Listed WriteFault before after =
    Rose before.out after.out × HasText before (λ text. TookLess text before.taken after.taken)
Listed NoMemory before after = HasText before (λ text. TookPart text before.taken after.taken)

-- what `list` did; it writes nothing to the disk
pub record ListDid (outcome : ListOutcome) (before after : Shown) : Type 0 where
  pub unwritten : IsUnwritten before after
  pub listed : Listed outcome before after
