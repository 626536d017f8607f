-- `return`, `throw` and labels (ECMA-262 edition 5.1, 12.9, 12.12, 12.13).
use Rattle.std.specs.Prelude.{ℕ, Bool, false, List, Option, Some, None, if◌then◌else◌}
use Rattle.js_value.specs.Same.{text_equal}
use Rattle.js_value.specs.declared.value.Value.{Value}
use Rattle.js_value.specs.declared.value.Value.TheVariants as value
use Rattle.js_term.specs.declared.completion.Completion.{Completion}
use Rattle.js_term.specs.declared.completion.Completion.TheVariants as completion
use Rattle.js_stmt.specs.Made.{Progress}
use Rattle.js_stmt.specs.Made.Progress.{Completes, Finishes}

-- without a value, undefined is returned
abbrev pub return_row : Option Value → Progress
return_row (Some v) = Completes (completion.Return v)
return_row None = Completes (completion.Return value.Undefined)

abbrev pub throw_row : Option Value → Progress
throw_row (Some v) = Completes (completion.Throw v)
throw_row None = Finishes

abbrev pub is_break_of : Completion → List ℕ → Bool
is_break_of (completion.Break (Some x)) l = text_equal x l
is_break_of k l = false

-- a labelled statement takes the `break` of its label
abbrev pub labelled_meets : List ℕ → Completion → Progress
labelled_meets l k = if is_break_of k l then Finishes else Completes k
