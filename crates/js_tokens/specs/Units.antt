-- The units of a text, by what they may be part of.
use Rattle.std.specs.Prelude.{ℕ, Bool, false, ◌&&◌, ◌||◌, ◌==◌, nat_le, nat_eq, List, [], ◌∷◌}
use Rattle.std.specs.List.{starts_with}
use Rattle.mug_text.specs.Characters.{is_digit}

-- what a name begins with (7.6): an ASCII letter, `$` or `_`
abbrev pub is_start : ℕ → Bool
is_start u = (nat_le 97 u && nat_le u 122) || (nat_le 65 u && nat_le u 90) || u == 36 || u == 95

-- what a name goes on with: a digit too
abbrev pub is_part : ℕ → Bool
is_part u = is_start u || is_digit u

-- `"` and `'`
abbrev pub is_quote : ℕ → Bool
is_quote u = u == 34 || u == 39

-- the first unit, where there is one, passes the test
abbrev pub begins : (ℕ → Bool) → List ℕ → Bool
begins test [] = false
begins test (u ∷ _) = test u

-- the text begins with these units
abbrev pub opens : List ℕ → List ℕ → Bool
opens text units = starts_with nat_eq text units
