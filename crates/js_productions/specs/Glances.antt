-- What is seen at a token, as a glance keeps it and the tokens from there on tell the rest.
use Rattle.std.specs.Prelude.{ℕ, ℤ, pos, Bool, false, List, [], ◌∷◌}
use Rattle.js_tokens.specs.declared.token.Token.{Token}
use Rattle.js_grammar.specs.declared.sight.Sight.{Sight}
use Rattle.js_grammar.specs.Sights.{text_of, number_of, is_colon, first, opens_target}
use Rattle.js_productions.specs.declared.seeing.Glance.{Glance}

-- the text of the first token
abbrev pub text_at : List Token → List ℕ
text_at [] = []
text_at (t ∷ ts) = text_of t.kind

-- its number, or 0
abbrev pub number_at : List Token → ℤ
number_at [] = pos 0
number_at (t ∷ ts) = number_of t.kind

-- a colon stands behind it
abbrev pub colon_at : List Token → Bool
colon_at [] = false
colon_at (t ∷ ts) = is_colon (first ts)

-- what is seen
abbrev pub sight_of : Glance → List Token → Sight
sight_of g ts = record {
  seen = g.seen;
  text = text_at ts;
  number = number_at ts;
  line_before = g.line_before;
  colon = colon_at ts;
  target = opens_target 0 ts;
  before = g.before;
  from = g.from;
}
