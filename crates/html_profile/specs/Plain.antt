-- What bytes of a page stand for: line endings and references.
use Rattle.std.specs.Prelude.{ℕ, zero, suc, ◌+◌, ◌-◌, ◌*◌, Bool, ◌&&◌, List, [], ◌∷◌, ◌++◌, length, take_while, drop, fold, codes, nat_lt, ◌==◌, Option, Some, None, if◌then◌else◌}
use Rattle.std.specs.Option.{option_to_list}
use Rattle.std.specs.Char.{encode_utf8, digit_value}
use lib.Utf8.{scalar}
use Rattle.html_profile.specs.Marks.{opens, begins}

-- what stands for a byte that these follow: carriage return and line feed, and carriage return
-- alone, read as line feed (Infra, "normalize newlines")
abbrev pub line_byte : ℕ → List ℕ → Option ℕ
line_byte c rest =
    if c == 13 then (if begins (λ d. d == 10) rest then None else Some 10) else Some c

abbrev pub lines : List ℕ → List ℕ
lines [] = []
lines (c ∷ rest) = option_to_list (line_byte c rest) ++ lines rest

-- the digits of this base at the front; a letter is a digit above 9
abbrev pub digits_of : ℕ → List ℕ → List ℕ
digits_of base text = take_while (λ c. nat_lt (digit_value c) base) text

-- a number's value in this base, from its digits
abbrev pub value_of : ℕ → List ℕ → ℕ
value_of base digits = fold (λ n c. n * base + digit_value c) 0 digits

-- a scalar value other than 0
abbrev pub is_character : ℕ → Bool
is_character c = nat_lt 0 c && scalar c

-- the character and the length of a reference by number: behind this many bytes the digits of this
-- base, and `;`
abbrev pub numeric : ℕ → ℕ → List ℕ → Option (ℕ × ℕ)
numeric base start text =
    let digits = digits_of base (drop start text) in
    let c = value_of base digits in
    if is_character c && begins (λ d. d == 59) (drop (start + length digits) text)
    then Some (c, start + length digits + 1)
    else None

-- the character that a reference at the front of the text stands for, and the reference's length
-- (HTML Standard, 13.1.4, in a profile: five names, all with `;`, and scalar values other than 0)
abbrev pub reference : List ℕ → Option (ℕ × ℕ)
reference text =
    if opens text (codes "&amp;") then Some (38, 5)
    else (if opens text (codes "&lt;") then Some (60, 4)
    else (if opens text (codes "&gt;") then Some (62, 4)
    else (if opens text (codes "&quot;") then Some (34, 6)
    else (if opens text (codes "&apos;") then Some (39, 6)
    else (if opens text (codes "&#x") then numeric 16 3 text
    else (if opens text (codes "&#") then numeric 10 2 text
    else None))))))

-- the character of a reference that was found, or the byte that stands there
abbrev pub written : ℕ → Option (ℕ × ℕ) → List ℕ
written c None = c ∷ []
written c (Some found) = encode_utf8 found.0

-- how many bytes behind its first a reference takes
abbrev pub taken : Option (ℕ × ℕ) → ℕ
taken None = 0
taken (Some found) = found.1 - 1

-- the text behind so many bytes, which belong to a reference, with the character in place of each
-- reference
abbrev pub resolved : ℕ → List ℕ → List ℕ
resolved n [] = []
resolved zero (c ∷ rest) =
    written c (reference (c ∷ rest)) ++ resolved (taken (reference (c ∷ rest))) rest
resolved (suc n) (c ∷ rest) = resolved n rest

-- text with references; a carriage return that a reference stands for stays
abbrev pub plain : List ℕ → List ℕ
plain bytes = resolved 0 (lines bytes)
