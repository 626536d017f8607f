-- The attributes of a start tag (HTML Standard, 13.2.5.32 to 13.2.5.39, in a profile: no state of a
-- missing value, so a value without quotes runs to white space or `>`, and a tag that the end cuts
-- off has no attribute at its last place).
use Rattle.std.specs.Prelude.{◌≡◌, ℕ, ◌+◌, not, List, [], ◌∷◌, length, take, drop, ◌==◌, Option, Some, None, if◌then◌else◌}
use Rattle.std.specs.Option.{option_map}
use Rattle.std.specs.Borrow.{Bor}
use Rattle.html_profile.specs.Marks.{lower, begins, place, before, from}
use Rattle.html_profile.specs.Plain.{plain}
use Rattle.html_profile.specs.declared.mark.Mark.TheVariants.{AttributeEnd, ValueEnd, Quote, Ink, Solid}
use Rattle.html_profile.specs.declared.tag.Attribute.{Attribute}

-- the value before a quote and what stands behind it; none where no such quote follows
abbrev pub behind_quote : List ℕ → List ℕ → Option (List ℕ × List ℕ)
behind_quote value [] = None
behind_quote value (_ ∷ rest) = Some (value, rest)

abbrev pub quoted : ℕ → List ℕ → Option (List ℕ × List ℕ)
quoted quote text = behind_quote (before (Quote quote) text) (from (Quote quote) text)

-- the value behind `=` and white space, and what stands behind it
abbrev pub given : List ℕ → Option (List ℕ × List ℕ)
given [] = Some ([], [])
given (c ∷ rest) =
    if c == 34 then quoted 34 rest
    else (if c == 39 then quoted 39 rest
    else Some (before ValueEnd (c ∷ rest), from ValueEnd (c ∷ rest)))

-- the value of an attribute that has none is empty, unless `=` follows, where white space may stand
-- around it
abbrev pub behind_name : List ℕ → List ℕ → Option (List ℕ × List ℕ)
behind_name text [] = Some ([], text)
behind_name text (c ∷ rest) = if c == 61 then given (from Ink rest) else Some ([], text)

-- the value behind an attribute's name, and what stands behind it; none where the end cuts it off
abbrev pub value_at : List ℕ → Option (List ℕ × List ℕ)
value_at text = behind_name text (from Ink text)

-- an attribute with this name, at this distance from the page's end, where its value was found
abbrev pub named : List ℕ → ℕ → Option (List ℕ × List ℕ) → Option (Attribute × List ℕ)
named name left None = None
named name left (Some found) =
    Some (record { name = lower name; value = plain found.0; left = left }, found.1)

-- the length of the name at the front: one byte, and then all up to white space, `=`, `/` or `>`
abbrev pub name_len : List ℕ → ℕ
name_len text = 1 + place AttributeEnd (drop 1 text)

-- the attribute at the front, and what stands behind it; none at `>`, at the end, and where the end
-- cuts it off
abbrev pub attribute_at : List ℕ → Option (Attribute × List ℕ)
attribute_at text =
    if begins (λ c. not (c == 62)) text
    then named (take (name_len text) text) (length text) (value_at (drop (name_len text) text))
    else None

-- what stands behind the `>` at the front
abbrev pub closing : List ℕ → Option (List ℕ)
closing [] = None
closing (c ∷ rest) = if c == 62 then Some rest else None

-- these are all the attributes behind a tag's name, and this stands behind the tag, or nothing
-- where the end cuts it off; between attributes white space and `/` are passed over
abbrev pub IsAttributes : List ℕ → List Attribute → Option (List ℕ) → Type 0
IsAttributes text [] end =
    (attribute_at (from Solid text) ≡ None) × (end ≡ closing (from Solid text))
IsAttributes text (a ∷ more) end =
    (rest : List ℕ) × (attribute_at (from Solid text) ≡ Some (a, rest)) × IsAttributes rest more end

-- parts of the text that were found, without where they lie in memory
abbrev pub seen : Option (Bor (List ℕ) × Bor (List ℕ)) → Option (List ℕ × List ℕ)
seen found = option_map (λ pair. (pair.0.now, pair.1.now)) found

abbrev pub seen_rest : Option (Bor (List ℕ)) → Option (List ℕ)
seen_rest found = option_map (λ rest. rest.now) found

abbrev pub seen_attribute : Option (Attribute × Bor (List ℕ)) → Option (Attribute × List ℕ)
seen_attribute found = option_map (λ pair. (pair.0, pair.1.now)) found
