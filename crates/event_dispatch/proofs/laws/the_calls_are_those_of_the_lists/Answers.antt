use Rattle.event_dispatch.proofs.Calls.{step_calls}
use Rattle.event_dispatch.proofs.laws.the_calls_are_those_of_the_lists.Goals as goal

pub returns : goal.returns
returns c = step_calls
