-- What stands between tokens (ECMA-262 edition 5.1, 7.2 to 7.4): white space, line terminators and comments.
use Rattle.std.specs.Prelude.{◌≡◌, ℕ, ◌+◌, ◌<◌, Bool, false, ◌||◌, not, List, [], ◌∷◌, length, take, drop, codes, Option, Some, None, if◌then◌else◌}
use Rattle.std.specs.List.{take_while, list_any}
use Rattle.std.specs.Option.{option_map}
use Rattle.mug_text.specs.Characters.{is_space, is_line_end}
use Rattle.js_tokens.specs.Units.{begins, opens}

-- how many units stand before and in the first `*/`, if there is one
abbrev pub star_slash : List ℕ → Option ℕ
star_slash [] = None
star_slash (u ∷ us) = if opens (u ∷ us) (codes "*/") then Some 2 else option_map (λ n. n + 1) (star_slash us)

abbrev pub comment_len : Option ℕ → ℕ
comment_len None = 0
comment_len (Some n) = n + 2

-- the length of the comment, white space unit or line terminator in front; 0 where there is none.
-- A comment that nothing ends is none, and one of a line doesn't have the line terminator.
abbrev pub blank : List ℕ → ℕ
blank us =
    if opens us (codes "/*") then comment_len (star_slash (drop 2 us))
    else (if opens us (codes "//") then 2 + length (take_while (λ u. not (is_line_end u)) (drop 2 us))
    else (if begins (λ u. is_space u || is_line_end u) us then 1 else 0))

-- so many units stand in front of what is no more of this, and whether a line terminator is among them
pub data Gap : List ℕ → ℕ → Bool → Type 0 where
  none : {us : List ℕ} → blank us ≡ 0 → Gap us 0 false
  more : {us : List ℕ} {n : ℕ} {line : Bool} → 0 < blank us → Gap (drop (blank us) us) n line → Gap us (blank us + n) (list_any is_line_end (take (blank us) us) || line)
