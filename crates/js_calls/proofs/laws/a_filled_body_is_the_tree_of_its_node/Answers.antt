use Rattle.js_calls.proofs.FilledBodies.{body_read}
use Rattle.js_calls.proofs.laws.a_filled_body_is_the_tree_of_its_node.Goals as goal

pub returns : goal.returns
returns c = body_read
