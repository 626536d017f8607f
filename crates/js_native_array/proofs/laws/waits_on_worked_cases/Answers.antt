-- Each is computed.
use Rattle.std.proofs.Common.{refl}
use Rattle.std.specs.Fmt.{digits}
use Rattle.js_native_array.proofs.laws.waits_on_worked_cases.Goals as goal

pub returns-clause-join : goal.returns-clause-join
unfolding digits
returns-clause-join c = refl

pub returns-clause-hole : goal.returns-clause-hole
unfolding digits
returns-clause-hole c = refl

pub returns-clause-every : goal.returns-clause-every
unfolding digits
returns-clause-every c = refl

pub returns-clause-reduce : goal.returns-clause-reduce
unfolding digits
returns-clause-reduce c = refl
