-- The units of texts, by what they stand for.
use Rattle.std.specs.Prelude.{ℕ, Bool, ◌&&◌, ◌||◌, ◌==◌, nat_le, List, [], ◌∷◌, reverse, if◌then◌else◌}

-- white space (ECMA-262 edition 5.1, 7.2): tab, vertical tab, form feed, space, no-break space, byte order mark, and Unicode's other spaces
abbrev pub is_space : ℕ → Bool
is_space u =
    u == 0x09 || u == 0x0B || u == 0x0C || u == 0x20 || u == 0xA0 || u == 0xFEFF || u == 0x1680
    || (nat_le 0x2000 u && nat_le u 0x200A) || u == 0x202F || u == 0x205F || u == 0x3000

-- line terminators (7.3)
abbrev pub is_line_end : ℕ → Bool
is_line_end u = u == 0x0A || u == 0x0D || u == 0x2028 || u == 0x2029

abbrev pub is_blank : ℕ → Bool
is_blank u = is_space u || is_line_end u

-- 0 to 9
abbrev pub is_digit : ℕ → Bool
is_digit u = nat_le 48 u && nat_le u 57

-- without the blanks in front
abbrev pub skip_blanks : List ℕ → List ℕ
skip_blanks [] = []
skip_blanks (u ∷ us) = if is_blank u then skip_blanks us else u ∷ us

-- without those at both ends (15.5.4.20)
abbrev pub trimmed : List ℕ → List ℕ
trimmed us = reverse (skip_blanks (reverse (skip_blanks us)))
