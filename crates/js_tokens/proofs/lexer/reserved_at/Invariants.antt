use Rattle.std.proofs.Common.{◌≡◌, true, take}
use Rattle.std.specs.Prelude.{not}
use Rattle.std.specs.List.{list_all}
use Rattle.js_tokens.specs.Words.{spelling, is_word}
use Rattle.js_tokens.proofs.lexer.reserved_at.Given as goal

-- none of those passed stands there
abbrev pub invariant-loop-word : goal.invariant-loop-word
invariant-loop-word l = list_all (λ w. not (is_word l.units (spelling w))) (take l.word-index l.word-items) ≡ true
