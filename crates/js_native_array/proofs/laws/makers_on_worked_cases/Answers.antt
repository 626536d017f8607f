-- Each is computed.
use Rattle.std.proofs.Common.{refl}
use Rattle.std.specs.Fmt.{digits}
use Rattle.js_native_array.proofs.laws.makers_on_worked_cases.Goals as goal

pub returns-clause-slice : goal.returns-clause-slice
unfolding digits
returns-clause-slice c = refl

pub returns-clause-concat : goal.returns-clause-concat
unfolding digits
returns-clause-concat c = refl

pub returns-clause-index_of : goal.returns-clause-index_of
unfolding digits
returns-clause-index_of c = refl
