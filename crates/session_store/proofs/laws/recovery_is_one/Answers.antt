use Rattle.session_store.proofs.Unique.{one_found}
use Rattle.session_store.proofs.laws.recovery_is_one.Goals as goal

pub returns : goal.returns
returns c = one_found
