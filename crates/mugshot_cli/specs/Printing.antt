-- Parts of printed lines.
use Rattle.std.specs.Prelude.{ℕ, List, ◌++◌, codes, decimal}
use Rattle.mugshot_cli.specs.declared.counts.Counts.{Counts}

-- a word, a number and a line feed
abbrev pub numbered_line : List ℕ → ℕ → List ℕ
numbered_line word n = word ++ decimal n ++ codes "\n"

-- the four counts, as the last line of a capture and that of a replay have them
abbrev pub counts_text : Counts → List ℕ
counts_text c =
    codes " steps=" ++ decimal c.steps ++ codes " hidden=" ++ decimal c.hidden
    ++ codes " calls=" ++ decimal c.calls ++ codes " nested=" ++ decimal c.nested
