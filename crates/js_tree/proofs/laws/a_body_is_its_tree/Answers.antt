use Rattle.js_tree.proofs.Computed.{body_computed}
use Rattle.js_tree.proofs.laws.a_body_is_its_tree.Goals as goal

pub returns : goal.returns
returns c = body_computed
