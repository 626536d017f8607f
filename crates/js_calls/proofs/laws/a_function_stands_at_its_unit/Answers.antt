use Rattle.js_calls.proofs.Runnable.{stands_at}
use Rattle.js_calls.proofs.laws.a_function_stands_at_its_unit.Goals as goal

pub returns : goal.returns
returns c = stands_at
