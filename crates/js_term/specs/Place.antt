-- Where a node stands.
use Rattle.std.specs.Prelude.{ℕ}

-- a unit of a text, by the text's number and the unit's; or nowhere in a text
pub data Place : Type 0 where
  At : (text unit : ℕ) → Place
  Host : Place

-- a row and the place of its node
pub record Placed (Q : Type 0) : Type 0 where
  pub place : Place
  pub row : Q
