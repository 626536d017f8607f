-- Where a script that is to run first stands in a page.
use Rattle.std.specs.Prelude.{ℕ, ◌+◌, Bool, ◌&&◌, List, ◌∷◌, [], length, drop, codes, nat_lt, if◌then◌else◌}
use Rattle.html_profile.specs.Marks.{opens, opens_lowered, place, from}
use Rattle.html_profile.specs.declared.mark.Mark.TheVariants.{TagEnd, Ink}

-- the length of the byte order mark, U+FEFF in UTF-8, or 0 where there is none
abbrev pub mark_len : List ℕ → ℕ
mark_len bytes = if opens bytes (0xEF ∷ 0xBB ∷ 0xBF ∷ []) then 3 else 0

-- `<!doctype` in any case, and later a `>`
abbrev pub opens_doctype : List ℕ → Bool
opens_doctype text =
    opens_lowered text (codes "<!doctype") && nat_lt (place TagEnd text) (length text)

-- after the byte order mark; or, where any white space and a doctype follow, after the doctype's
-- `>`
abbrev pub first_place : List ℕ → ℕ
first_place bytes =
    let text = drop (mark_len bytes) bytes in
    if opens_doctype (from Ink text)
    then mark_len bytes + place Ink text + place TagEnd (from Ink text) + 1
    else mark_len bytes
