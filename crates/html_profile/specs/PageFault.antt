-- When bytes are refused.
use Rattle.std.specs.Prelude.{ℕ, ◌+◌, ◌<◌, ◌≤◌, List, length}
use Rattle.mug_text.specs.declared.limits.TheConstants.{PAGE_LIMIT}
use Rattle.mug_text.specs.Text.{StopsAt}
use Rattle.html_profile.specs.declared.page.HtmlFault.{HtmlFault}
use Rattle.html_profile.specs.declared.page.HtmlFault.TheVariants.{TooLarge, NotUtf8, NoMemory}

-- 4 MiB, and the inserted script
abbrev pub longest_page : ℕ
longest_page = PAGE_LIMIT + 450

-- bytes above 4 MiB and the inserted script are too large, and no others; of the others the place
-- is the first at which no sequence of UTF-8 begins; nothing is said of when memory is out
abbrev pub Refuses : HtmlFault → List ℕ → Type 0
Refuses TooLarge bytes = longest_page < length bytes
Refuses (NotUtf8 place) bytes = (length bytes ≤ longest_page) × StopsAt bytes place
Refuses NoMemory bytes = Unit {0}
