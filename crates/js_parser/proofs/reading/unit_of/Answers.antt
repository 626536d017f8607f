use Rattle.std.proofs.Common.{◌<◌, ◌≤◌, List, length, get_or, ◌∙◌, ap, subst}
use Rattle.js_tokens.specs.declared.token.Token.{Token}
use Rattle.js_parser.proofs.Verdicts.{unit_at, unit_behind}
use Rattle.js_parser.proofs.reading.unit_of.Goals as goal

pub returns-then-number-items : goal.returns-then-number-items
returns-then-number-items c names start =
    ap (λ (z : List Token). (get_or z c.args.number c.index-items-number.result).from) c.as_slice-items.ensures
    ∙ unit_at names start c.args.tokens.now c.args.number c.index-items-number.result
    (subst (λ (z : List Token). c.args.number < length z) c.as_slice-items.ensures c.if-number-items.true)

pub returns-else-number-items : goal.returns-else-number-items
returns-else-number-items c names start =
    unit_behind names start c.args.tokens.now c.args.number
    (subst (λ (z : List Token). length z ≤ c.args.number) c.as_slice-items.ensures c.if-number-items.false)
