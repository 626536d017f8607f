-- Where the units of a script's text stand in its bytes.
use Rattle.std.specs.Prelude.{ℕ, ◌+◌, ◌-◌, ◌≤◌, length, All, ◌&&◌, List, [], ◌∷◌, ◌==◌, nat_lt, nat_le, if◌then◌else◌}
use Rattle.html_profile.specs.declared.document.ScriptAt.{ScriptAt}

-- how many units begin at a byte that stands behind another: a line feed behind a carriage return
-- begins none, since both read as one line feed (Infra, "normalize newlines"), and a character's
-- later bytes begin none; a character of four bytes is two units
abbrev pub units_at : ℕ → ℕ → ℕ
units_at before c =
    if (before == 13) && (c == 10) then 0
    else (if nat_le 0x80 c && nat_lt c 0xC0 then 0
    else (if nat_le 0xF0 c then 2 else 1))

-- the place of the byte at which the unit of this number begins, behind the byte `before`; where
-- there are no more units, the end
abbrev pub place_behind : ℕ → ℕ → List ℕ → ℕ
place_behind before n [] = 0
place_behind before n (c ∷ rest) =
    if nat_lt n (units_at before c) then 0 else 1 + place_behind c (n - units_at before c) rest

-- the place in a script's bytes of the unit of this number
abbrev pub unit_place : ℕ → List ℕ → ℕ
unit_place n bytes = place_behind 0 n bytes

-- the bytes of each script lie within a page of this length
abbrev pub LieWithin : ℕ → List ScriptAt → Type 0
LieWithin total scripts = All (λ s. s.at + length s.source ≤ total) scripts
