use Rattle.std.proofs.Common.{◌≡◌, ◌≢◌, Bool, true, false, MatchBool, sym, rules}
use denote.Enum.Bare.{sameb, same_true, same_false}
use Rattle.js_tokens.specs.declared.word.Word.{Word}
use Rattle.js_tokens.specs.contracts.word.Word.{the_type}
use Rattle.js_expr.proofs.reading.is_same.Goals as goal

by : (r : Bool) (a b : Word) → r ≡ sameb the_type a b → MatchBool r (a ≡ b) (a ≢ b)
by true a b e = same_true the_type (search rules) a b (sym e)
by false a b e = same_false the_type a b (sym e)

pub returns : goal.returns
returns c = by c.eq.result c.args.word c.args.other c.eq.ensures
