use Rattle.std.proofs.Common.{sym, ◌∙◌, ap}
use Rattle.std.specs.Prelude.{not}
use Rattle.std.proofs.lemmas.List.Folds.{list_all_more}
use Rattle.js_tokens.specs.Words.{spelling, is_word}
use Rattle.js_tokens.specs.declared.word.TheConstants.{RESERVED}
use Rattle.js_tokens.proofs.Runs.{and_both}
use Rattle.js_tokens.proofs.lexer.reserved_at.Goals as goal

pub loop-word-preserved : goal.loop-word-preserved
loop-word-preserved c =
    list_all_more (λ w. not (is_word c.args.units.now (spelling w))) RESERVED c.loop-word.word-index _ c.loop-word-test.true
    ∙ and_both _ _ c.loop-word.invariant (ap not (ap (is_word c.args.units.now) (sym c.spelling.ensures) ∙ sym c.is_word_of.ensures.is ∙ c.if-is_word_of.false))
