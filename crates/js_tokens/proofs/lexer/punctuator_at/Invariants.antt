use Rattle.std.proofs.Common.{◌≡◌, true, take}
use Rattle.std.specs.Prelude.{not}
use Rattle.std.specs.List.{list_all}
use Rattle.js_tokens.specs.Words.{spelling}
use Rattle.js_tokens.specs.Units.{opens}
use Rattle.js_tokens.proofs.lexer.punctuator_at.Given as goal

-- none of those passed stands there
abbrev pub invariant-loop-word : goal.invariant-loop-word
invariant-loop-word l = list_all (λ w. not (opens l.units (spelling w))) (take l.word-index l.word-items) ≡ true
