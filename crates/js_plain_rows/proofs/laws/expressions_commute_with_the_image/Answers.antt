use Rattle.js_plain_rows.proofs.Expressions.{early_steps-plain, expressions-plain}
use Rattle.js_plain_rows.proofs.laws.expressions_commute_with_the_image.Goals as goal

pub returns : goal.returns
returns g c = record { made = expressions-plain; early = early_steps-plain }
