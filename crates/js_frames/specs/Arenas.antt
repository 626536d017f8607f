-- The arenas of texts.
use Rattle.std.specs.Prelude.{ℕ, ◌-◌, List, [], ◌∷◌, ◌++◌, Option, Some, None}
use Rattle.std.specs.Prelude.{length, replicate}
use Rattle.std.specs.Prelude.{slice_get, unwrap_or}
use Rattle.js_tree.specs.Arena.{Arena, IsOrdered, empty}
use Rattle.js_calls.specs.Texts.{IsRead}

-- by the numbers of their texts; a text that couldn't be read has a number, and no arena
abbrev pub Arenas : Type 0
Arenas = List (Option Arena)

abbrev pub joined : {X : Type 0} → Option (Option X) → Option X
joined (Some o) = o
joined None = None

abbrev pub text_at : Arenas → ℕ → Option Arena
text_at ts x = joined (slice_get ts x)

-- a text without an arena has no nodes
abbrev pub arena_of : Arenas → ℕ → Arena
arena_of ts x = unwrap_or (text_at ts x) empty

abbrev pub AreOrdered : Arenas → Type 0
AreOrdered ts = (x : ℕ) → IsOrdered (arena_of ts x)

-- what was read of each
abbrev pub AreRead : Arenas → Type 0
AreRead ts = (x : ℕ) → IsRead (arena_of ts x)

-- with one more, behind texts that couldn't be read
abbrev pub with_text : ℕ → Arena → Arenas → Arenas
with_text x a ts = (ts ++ replicate (x - length ts) None) ++ Some a ∷ []
