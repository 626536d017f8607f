-- How far the operands of a frame are evaluated, as code has them.
use Rattle.std.specs.Prelude.{ℕ, List, [], ◌∷◌, ◌++◌, drop, map, take}
use Rattle.js_value.specs.declared.value.Value.{Value}
use Rattle.js_term.specs.declared.operands.Operand.{Operand}
use Rattle.js_term.specs.declared.operands.Operand.TheVariants as operand
use Rattle.js_term.specs.Frames.{Focus, Frame}
use Rattle.js_term.specs.Frames.Focus.{Resting}
use Rattle.js_term.specs.Frames.Frame.{Waiting}

-- the operands that are values, and those to come, in their order
pub record Evaluation : Type 0 where
  pub done : List Value
  pub todo : List Operand

abbrev pub nothing : Evaluation
nothing = record { done = []; todo = [] }

-- with these behind those to come
abbrev pub and_then : List Operand → Evaluation → Evaluation
and_then xs e = record e { todo = e.todo ++ xs }

-- with the value of the next one
abbrev pub taken : Value → Evaluation → Evaluation
taken v e = record { done = e.done ++ v ∷ []; todo = drop 1 e.todo }

-- the values from this place on are to come again
abbrev pub again : ℕ → Evaluation → Evaluation
again n e = record { done = take n e.done; todo = map operand.Value (drop n e.done) ++ e.todo }

-- a row with its operands at the top of a stack, and as a frame that waits for the next of them
abbrev pub focused : {R : Type 0} → R → Evaluation → Focus R Operand
focused r e = Resting r e.done e.todo

abbrev pub waiting : {R : Type 0} → R → Evaluation → Frame R Operand
waiting r e = Waiting r e.done (drop 1 e.todo)
