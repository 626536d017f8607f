use Rattle.std.proofs.Common.{sym, ◌∙◌}
use Rattle.js_tokens.proofs.Opens.{word_is}
use Rattle.js_tokens.proofs.lexer.is_word_of.Goals as goal

pub returns-then-units-bytes-clause-same : goal.returns-then-units-bytes-clause-same
returns-then-units-bytes-clause-same c h = word_is _ _ c.if-units-bytes.true (sym c.opens.ensures.is ∙ h)
