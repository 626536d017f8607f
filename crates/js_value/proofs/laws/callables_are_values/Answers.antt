use Rattle.js_value.proofs.Callables.{callable_in-callable_value, callable_value-callable_in, is_some-callable_in}
use Rattle.js_value.proofs.laws.callables_are_values.Goals as goal

pub returns : goal.returns
returns c = record { back = callable_in-callable_value; same = callable_value-callable_in; which = is_some-callable_in }
