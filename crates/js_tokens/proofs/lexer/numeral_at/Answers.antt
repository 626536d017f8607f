use Rattle.std.proofs.Common.{arith}
use Rattle.js_tokens.specs.Tokens.{Longest, NoneStands}
use Rattle.js_tokens.proofs.Fronts.{number_only, number_length, option_weaker}
use Rattle.js_tokens.proofs.lexer.numeral_at.Goals as goal

pub returns : goal.returns
returns c =
    option_weaker c.number_at.result _ _ (NoneStands c.args.units.now) (λ f. Longest f.kind f.word c.args.units.now f.len)
    (λ none k w n x. let (z, y) = number_only c.args.units.now c.requires k w n x in none z w n y)
    (λ f found. (found.1, λ k w n x. let (z, y) = number_only c.args.units.now c.requires k w n x in omega (arith, number_length c.args.units.now z w n y, found.0)))
    c.number_at.ensures
