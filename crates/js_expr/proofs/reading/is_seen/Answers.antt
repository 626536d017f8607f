use Rattle.std.proofs.Common.{◌≡◌, ◌≢◌, Bool, true, false, MatchBool, sym, ◌∙◌, ap}
use Rattle.js_tokens.specs.declared.word.Word.{Word}
use Rattle.js_grammar.specs.declared.sight.Seen.{Seen}
use Rattle.js_grammar.specs.declared.sight.Seen.TheVariants as seen
use Rattle.js_expr.proofs.reading.is_seen.Goals as goal

by : (r : Bool) (u : Seen) (a b : Word) → u ≡ seen.Word a → MatchBool r (a ≡ b) (a ≢ b) → MatchBool r (u ≡ seen.Word b) (u ≢ seen.Word b)
by true u a b e h = e ∙ ap seen.Word h
by false u a b e h = λ f. h (cc (sym e ∙ f))

pub returns-in-Word : goal.returns-in-Word
returns-in-Word c = by c.is_same.result c.args.seen c.in-Word.other c.args.word c.in-Word.is c.is_same.ensures
