-- String literals (ECMA-262 edition 5.1, 7.8.4).
use Rattle.std.specs.Prelude.{◌≡◌, ℕ, ◌+◌, true, ◌&&◌, ◌||◌, ◌==◌, nat_lt, List, [], ◌∷◌, ◌++◌, length, take, drop, Option, Some, None, if◌then◌else◌}
use Rattle.std.specs.List.{list_all}
use Rattle.std.specs.Option.{option_to_list}
use Rattle.mug_text.specs.Characters.{is_digit, is_line_end}
use Rattle.js_tokens.specs.Units.{begins}
use Rattle.mug_text.specs.Digits.{digit, digits_value}
use Rattle.js_tokens.specs.declared.strings.Piece.{Piece}

-- so many hexadecimal digits in front, which stand for one unit
abbrev pub coded : ℕ → List ℕ → Option Piece
coded n us = if length (take n us) == n && list_all (λ u. nat_lt (digit u) 16) (take n us) then Some (record { value = Some (digits_value 16 (take n us)); len = n + 2 }) else None

-- the unit that a single character stands for behind a backslash: itself, but for `b`, `t`, `n`, `v`, `f`, `r`
abbrev pub single : ℕ → ℕ
single u = if u == 98 then 8 else (if u == 116 then 9 else (if u == 110 then 10 else (if u == 118 then 11 else (if u == 102 then 12 else (if u == 114 then 13 else u)))))

-- a line continuation stands for nothing; carriage return and line feed are one line end
abbrev pub continued : ℕ → List ℕ → Piece
continued u us = record { value = None; len = if u == 13 && begins (λ v. v == 10) us then 3 else 2 }

-- the piece that a backslash and these units begin: a line continuation, `0` with no digit behind it, `x` and two hexadecimal
-- digits, `u` and four, or one character that is no digit
abbrev pub escaped : List ℕ → Option Piece
escaped [] = None
escaped (u ∷ us) =
    if is_line_end u then Some (continued u us)
    else (if u == 48 then (if begins is_digit us then None else Some (record { value = Some 0; len = 2 }))
    else (if is_digit u then None
    else (if u == 120 then coded 2 us
    else (if u == 117 then coded 4 us
    else Some (record { value = Some (single u); len = 2 })))))

-- the piece in front; none at the quote, a line end or the text's end
abbrev pub piece : ℕ → List ℕ → Option Piece
piece quote [] = None
piece quote (u ∷ us) =
    if u == quote || is_line_end u then None
    else (if u == 92 then escaped us else Some (record { value = Some u; len = 1 }))

-- behind so many units the quote stands, and the pieces before it stand for this value
pub data Inside (quote : ℕ) : List ℕ → ℕ → List ℕ → Type 0 where
  closes : {us : List ℕ} → begins (λ u. u == quote) us ≡ true → Inside quote us 0 []
  more : {us : List ℕ} {p : Piece} {n : ℕ} {value : List ℕ} → piece quote us ≡ Some p → Inside quote (drop p.len us) n value → Inside quote us (p.len + n) (option_to_list p.value ++ value)
