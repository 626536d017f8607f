-- Marks: what ends a part of a page, and where it first stands.
-- Offsets and parts are those of bytes. Each mark but the two that end a run of white space begins
-- with an ASCII byte, and no byte of another character in UTF-8 is one, so a part of a text between
-- marks is a text.
-- White space is that of the HTML Standard (Infra, "ASCII whitespace"): a carriage return reads as
-- a line feed, so it is white space too.
use Rattle.std.specs.Prelude.{ℕ, ◌+◌, Bool, true, false, ◌&&◌, ◌||◌, not, List, [], ◌∷◌, length, take, drop, map, codes, ◌==◌, nat_eq, if◌then◌else◌}
use Rattle.std.specs.Char.{to_ascii_lowercase, is_ascii_whitespace, is_ascii_alphabetic}
use Rattle.std.specs.List.{starts_with}
use Rattle.html_profile.specs.declared.mark.Raw.{Raw}
use Rattle.html_profile.specs.declared.mark.Raw.TheVariants.{Script, Style, Title, Textarea}
use Rattle.html_profile.specs.declared.mark.Mark.{Mark}
use Rattle.html_profile.specs.declared.mark.Mark.TheVariants.{CommentEnd, TagEnd, Markup, NameEnd, AttributeEnd, ValueEnd, Quote, RawEnd, Ink, Solid}

abbrev pub lower : List ℕ → List ℕ
lower bytes = map to_ascii_lowercase bytes

-- the text begins with these bytes
abbrev pub opens : List ℕ → List ℕ → Bool
opens text bytes = starts_with nat_eq text bytes

-- the text begins with these bytes, where its letters are lowered
abbrev pub opens_lowered : List ℕ → List ℕ → Bool
opens_lowered text [] = true
opens_lowered [] (b ∷ bytes) = false
opens_lowered (c ∷ rest) (b ∷ bytes) = to_ascii_lowercase c == b && opens_lowered rest bytes

-- the first byte, where there is one, passes the test
abbrev pub begins : (ℕ → Bool) → List ℕ → Bool
begins test [] = false
begins test (c ∷ _) = test c

-- at the end, or before white space, `/` or `>`
abbrev pub ends_name : ℕ → Bool
ends_name c = is_ascii_whitespace c || (c == 47 || c == 62)

-- the elements with raw text
abbrev pub name_of : Raw → List ℕ
name_of Script = codes "script"
name_of Style = codes "style"
name_of Title = codes "title"
name_of Textarea = codes "textarea"

-- `<` and `!`, `?`, `/` or a letter (13.2.5.6, "Tag open state")
abbrev pub opens_markup : List ℕ → Bool
opens_markup [] = false
opens_markup (c ∷ rest) =
    c == 60 && begins (λ d. is_ascii_alphabetic d || (d == 33 || (d == 47 || d == 63))) rest

-- `</`, this name in any case, and white space, `/`, `>` or the end (13.2.5.11 to 13.2.5.17)
abbrev pub closes_raw : List ℕ → List ℕ → Bool
closes_raw name text =
    opens text (codes "</")
    && (opens_lowered (drop 2 text) name
    && not (begins (λ c. not (ends_name c)) (drop (2 + length name) text)))

-- this mark stands at the front of the text
abbrev pub stands : Mark → List ℕ → Bool
stands CommentEnd text = opens text (codes "-->")
stands TagEnd text = begins (λ c. c == 62) text
stands Markup text = opens_markup text
stands NameEnd text = begins ends_name text
stands AttributeEnd text = begins (λ c. ends_name c || c == 61) text
stands ValueEnd text = begins (λ c. is_ascii_whitespace c || c == 62) text
stands (Quote quote) text = begins (λ c. c == quote) text
stands (RawEnd raw) text = closes_raw (name_of raw) text
stands Ink text = begins (λ c. not (is_ascii_whitespace c)) text
stands Solid text = begins (λ c. not (is_ascii_whitespace c || c == 47)) text

-- the first place at which the mark stands, or the end
abbrev pub place : Mark → List ℕ → ℕ
place mark [] = 0
place mark (c ∷ rest) = if stands mark (c ∷ rest) then 0 else place mark rest + 1

-- what stands before that place, and what stands from it on
abbrev pub before : Mark → List ℕ → List ℕ
before mark text = take (place mark text) text

abbrev pub from : Mark → List ℕ → List ℕ
from mark text = drop (place mark text) text
