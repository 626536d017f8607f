use Rattle.js_plain_rows.proofs.Statements.{statements-plain}
use Rattle.js_plain_rows.proofs.laws.statements_commute_with_the_image.Goals as goal

pub returns : goal.returns
returns g c = statements-plain
