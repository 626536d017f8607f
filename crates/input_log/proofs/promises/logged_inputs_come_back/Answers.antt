use Rattle.input_log.proofs.LoggedInputs.{come_back}
use Rattle.input_log.proofs.promises.logged_inputs_come_back.Goals as goal

pub returns : goal.returns
returns c = come_back
