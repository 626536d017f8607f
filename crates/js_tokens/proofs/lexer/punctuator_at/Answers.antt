use Rattle.std.proofs.Common.{sym, ◌∙◌, ap}
use Rattle.std.specs.Prelude.{not}
use Rattle.std.proofs.lemmas.List.Folds.{list_all_more}
use Rattle.std.proofs.lemmas.Option.{slice_get-get_or}
use Rattle.js_tokens.specs.Units.{opens}
use Rattle.js_tokens.specs.Words.{spelling}
use Rattle.js_tokens.specs.declared.word.TheConstants.{PUNCTUATORS}
use Rattle.js_tokens.proofs.Runs.{and_both}
use Rattle.js_tokens.proofs.lexer.punctuator_at.Goals as goal

pub loop-word-preserved : goal.loop-word-preserved
loop-word-preserved c =
    list_all_more (λ w. not (opens c.args.units.now (spelling w))) PUNCTUATORS c.loop-word.word-index _ c.loop-word-test.true
    ∙ and_both _ _ c.loop-word.invariant (ap not (ap (opens c.args.units.now) (sym c.spelling.ensures) ∙ sym c.opens.ensures.is ∙ c.if-opens.false))

pub returns-then-opens : goal.returns-then-opens
returns-then-opens c = (c.loop-word.word-index, c.loop-word-test.true, slice_get-get_or PUNCTUATORS c.loop-word.word-index _ c.loop-word-test.true, c.loop-word.invariant, ap (opens c.args.units.now) (sym c.spelling.ensures) ∙ sym c.opens.ensures.is ∙ c.if-opens.true)
