-- Digits, and the numbers that they spell.
use Rattle.std.specs.Prelude.{ℕ, ◌+◌, ◌-◌, ◌*◌, Bool, ◌&&◌, nat_le, nat_lt, List, length, if◌then◌else◌}
use Rattle.std.specs.List.{fold, list_all}
use Rattle.mug_text.specs.Characters.{is_digit}

-- the value of a digit 0 to 9, a to f, A to F; 16 of any other unit
abbrev pub digit : ℕ → ℕ
digit u =
    if is_digit u then u - 48
    else (if nat_le 97 u && nat_le u 102 then u - 87
    else (if nat_le 65 u && nat_le u 70 then u - 55 else 16))

-- one digit of the base or more, and nothing else
abbrev pub are_digits : ℕ → List ℕ → Bool
are_digits base us = nat_lt 0 (length us) && list_all (λ u. nat_lt (digit u) base) us

-- a digit more is the number before it times the base, and the digit
abbrev pub digits_value : ℕ → List ℕ → ℕ
digits_value base us = fold (λ n u. n * base + digit u) 0 us
