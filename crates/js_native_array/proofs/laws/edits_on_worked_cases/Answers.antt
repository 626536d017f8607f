-- Each is computed.
use Rattle.std.proofs.Common.{refl}
use Rattle.std.specs.Fmt.{digits}
use Rattle.js_native_array.proofs.laws.edits_on_worked_cases.Goals as goal

pub returns-clause-push : goal.returns-clause-push
unfolding digits
returns-clause-push c = refl

pub returns-clause-pop : goal.returns-clause-pop
unfolding digits
returns-clause-pop c = refl

pub returns-clause-shift : goal.returns-clause-shift
unfolding digits
returns-clause-shift c = refl

pub returns-clause-unshift : goal.returns-clause-unshift
unfolding digits
returns-clause-unshift c = refl

pub returns-clause-unshift_order : goal.returns-clause-unshift_order
unfolding digits
returns-clause-unshift_order c = refl

pub returns-clause-splice : goal.returns-clause-splice
unfolding digits
returns-clause-splice c = refl

pub returns-clause-splice_one : goal.returns-clause-splice_one
unfolding digits
returns-clause-splice_one c = refl

pub returns-clause-reverse : goal.returns-clause-reverse
unfolding digits
returns-clause-reverse c = refl
