use Rattle.std.proofs.Common.{IsTrue, true, false, rules}
use Rattle.mug_text.proofs.Spellings.{is_utf8, padded, parsed}
use Rattle.mug_text.proofs.digits.spelled.Goals as goal

pub returns-then-is_padded : goal.returns-then-is_padded
returns-then-is_padded c = let yes : IsTrue true = search rules in padded c.args.bytes.now (c.if-is_padded.ensures.0 yes)

pub returns-in_default : goal.returns-in_default
returns-in_default c = λ n small is. c.in_default.ensures.cases.0 (is_utf8 c.args.bytes.now n small is)

pub returns : goal.returns
returns c =
    parsed c.args.bytes.now c.in-Ok.text.now c.parse.result c.ok.result (λ p. let h : IsTrue false = c.if-is_padded.ensures.1 p in cc) c.in-Ok.ensures.cases.0 c.parse.ensures.value.0 c.ok.ensures.value
