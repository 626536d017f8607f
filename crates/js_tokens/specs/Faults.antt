-- When a text is refused.
use Rattle.std.specs.Prelude.{ℕ, List}
use Rattle.js_tokens.specs.Tokens.{RefusedFrom}
use Rattle.js_tokens.specs.declared.token.LexFault.{LexFault}
use Rattle.js_tokens.specs.declared.token.LexFault.TheVariants.{NoToken, NoMemory}

-- the place is the first at which no token begins; nothing is said of when memory is out
abbrev pub Refuses : LexFault → List ℕ → Type 0
Refuses (NoToken at) text = RefusedFrom text 0 at
Refuses NoMemory text = Unit {0}
