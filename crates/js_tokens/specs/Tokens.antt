-- The tokens of a text (ECMA-262 edition 5.1, clause 7): its units with white space, line terminators and comments between them,
-- each the longest at its place.
use Rattle.std.specs.Prelude.{◌≡◌, ◌≢◌, ℕ, ◌+◌, ◌-◌, ◌<◌, ◌≤◌, pos, Bool, true, false, ◌&&◌, ◌==◌, List, [], ◌∷◌, length, take, drop}
use Rattle.std.specs.List.{list_all}
use Rattle.mug_text.specs.declared.limits.TheConstants.{SAFE_END}
use Rattle.js_tokens.specs.Units.{is_start, is_part, is_quote, begins}
use Rattle.js_tokens.specs.Words.{spelling}
use Rattle.js_tokens.specs.Numbers.{is_numeral, numeral_value, goes_on}
use Rattle.js_tokens.specs.Strings.{Inside}
use Rattle.js_tokens.specs.Gaps.{Gap}
use Rattle.js_tokens.specs.declared.word.Word.{Word}
use Rattle.js_tokens.specs.declared.word.Word.TheVariants.{Name as name_word, Number as number_word, Text as text_word}
use Rattle.js_tokens.specs.declared.token.TokenKind.{TokenKind}
use Rattle.js_tokens.specs.declared.token.TokenKind.TheVariants.{Name, Reserved, Punctuator, Number, Text}
use Rattle.js_tokens.specs.declared.token.Token.{Token}

-- a name or a reserved word: a letter, `$` or `_`, and then these and digits
abbrev pub is_name : List ℕ → Bool
is_name us = begins is_start us && list_all is_part us

-- The first units, so many, are one token of this kind and word. A name is no reserved word, and a punctuator is a word that is no name.
-- A number is below `SAFE_END`, and what may not stand behind a number doesn't. A string is two quotes and the pieces between them.
abbrev pub Spells : TokenKind → Word → List ℕ → ℕ → Type 0
Spells (Name t) w us n = (is_name (take n us) ≡ true) × ((v : Word) → take n us ≢ spelling v) × (w ≡ name_word) × (t ≡ take n us)
Spells (Reserved t) w us n = (is_name (take n us) ≡ true) × (take n us ≡ spelling w) × (t ≡ take n us)
Spells (Punctuator t) w us n = (is_name (take n us) ≡ false) × (take n us ≢ []) × (take n us ≡ spelling w) × (t ≡ take n us)
Spells (Number z) w us n = (is_numeral (take n us) ≡ true) × (numeral_value (take n us) < SAFE_END) × (goes_on (drop n us) ≡ false) × (w ≡ number_word) × (z ≡ pos (numeral_value (take n us)))
Spells (Text t) w us n = (quote : ℕ) × (m : ℕ) × (is_quote quote ≡ true) × (begins (λ u. u == quote) us ≡ true) × Inside quote (drop 1 us) m t × (n ≡ m + 2) × (w ≡ text_word)

abbrev pub Stands : TokenKind → Word → List ℕ → ℕ → Type 0
Stands k w us n = (n ≤ length us) × Spells k w us n

-- the longest one
abbrev pub Longest : TokenKind → Word → List ℕ → ℕ → Type 0
Longest k w us n = Stands k w us n × ((k' : TokenKind) (w' : Word) (n' : ℕ) → Stands k' w' us n' → n' ≤ n)

-- no token begins here
abbrev pub NoneStands : List ℕ → Type 0
NoneStands us = (k : TokenKind) (w : Word) (n : ℕ) → Stands k w us n → ⊥

-- the token is the first from this place on
abbrev pub IsNext : List ℕ → ℕ → Token → Type 0
IsNext text i t = (n : ℕ) × Gap (drop i text) n t.line_before × (t.from ≡ i + n) × (t.from < t.to) × Longest t.kind t.word (drop t.from text) (t.to - t.from)

-- these are the tokens of the text from this place on
pub data TokensFrom (text : List ℕ) : ℕ → List Token → Type 0 where
  ends : {i n : ℕ} {line : Bool} → Gap (drop i text) n line → i + n ≡ length text → TokensFrom text i []
  next : {i : ℕ} {t : Token} {ts : List Token} → IsNext text i t → TokensFrom text t.to ts → TokensFrom text i (t ∷ ts)

-- from the first place on, the second is the first at which no token begins
pub data RefusedFrom (text : List ℕ) : ℕ → ℕ → Type 0 where
  here : {i n : ℕ} {line : Bool} → Gap (drop i text) n line → i + n < length text → NoneStands (drop (i + n) text) → RefusedFrom text i (i + n)
  later : {i at : ℕ} (t : Token) → IsNext text i t → RefusedFrom text t.to at → RefusedFrom text i at
