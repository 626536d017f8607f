-- What a text's tokens say, by the definitions alone.
use Rattle.std.specs.Prelude.{◌≡◌, ℕ, List}
use Rattle.js_tokens.specs.Tokens.{TokensFrom, RefusedFrom}
use Rattle.js_tokens.specs.declared.token.Token.{Token}

-- a text has one list of tokens or one place where it is refused, and never both
pub record OneList : Type 0 where
  pub one_list : (text : List ℕ) (ts us : List Token) → TokensFrom text 0 ts → TokensFrom text 0 us → ts ≡ us
  pub never_both : (text : List ℕ) (ts : List Token) (at : ℕ) → TokensFrom text 0 ts → RefusedFrom text 0 at → ⊥
  pub one_place : (text : List ℕ) (at place : ℕ) → RefusedFrom text 0 at → RefusedFrom text 0 place → at ≡ place
