-- The body of a function that was called (ECMA-262 edition 5.1, 13.2.1, 13.2.2): it gives undefined
-- where its statements are finished, and what they return; `new` gives the object that it made,
-- unless an object was returned.
use Rattle.std.specs.Prelude.{Option, Some, None, if◌then◌else◌}
use Rattle.js_value.specs.declared.value.Value.{Value}
use Rattle.js_value.specs.declared.value.Value.TheVariants as value
use Rattle.js_reference.specs.Callables.{is_object}
use Rattle.js_term.specs.declared.completion.Completion.{Completion}
use Rattle.js_term.specs.declared.completion.Completion.TheVariants.{Return}
use Rattle.js_stmt.specs.Made.{Progress}
use Rattle.js_stmt.specs.Made.Progress.{Completes, Gives}

-- what the call gives, of what the body returns
abbrev pub result_of : (made : Option Value) → Value → Value
result_of None v = v
result_of (Some m) v = if is_object v then v else m

abbrev pub body_row : (made : Option Value) → Progress
body_row made = Gives (result_of made value.Undefined)

abbrev pub body_meets : (made : Option Value) → Completion → Progress
body_meets made (Return v) = Gives (result_of made v)
body_meets made k = Completes k
