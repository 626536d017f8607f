-- The few forms of which the steps of rows are made.
use Rattle.std.specs.Prelude.{ℕ, Bool, true, List, [], ◌∷◌, Option, Some, None}
use Rattle.js_value.specs.declared.value.Value.{Value}
use Rattle.js_heap.specs.World.{World}
use Rattle.js_reference.specs.Errors.{Answer, thrown}
use Rattle.js_reference.specs.declared.error.ErrorName.{ErrorName}
use Rattle.js_reference.specs.Errors.Answer.{Returns, Throws}
use Rattle.js_term.specs.declared.completion.Completion.TheVariants.{Throw}
use Rattle.js_term.specs.Operands.{Labels}
use Rattle.js_tree.specs.Names.{is_among}
use Rattle.js_stmt.specs.Made.{Made, Progress, made}
use Rattle.js_stmt.specs.Made.Progress.{Completes, Finishes}

-- the value of a row that has one operand, and the values of one that has two
abbrev pub only : List Value → Option Value
only (v ∷ []) = Some v
only vs = None

abbrev pub pair : List Value → Option (Value × Value)
pair (u ∷ v ∷ []) = Some (u, v)
pair vs = None

-- a jump is for a loop or a switch with these labels (12.7, 12.8): without a label it is, with one
-- where it is among them
abbrev pub takes : Labels → (label : Option (List ℕ)) → Bool
takes labels None = true
takes labels (Some l) = is_among l labels

module _ {H : Type 0} where
  -- behind an operation the statement goes on, or its throw stands in the statement's place
  abbrev pub goes_on : Progress → Answer H → Made H
  goes_on next (Returns v w h) = made next w h
  goes_on next (Throws v w h) = made (Completes (Throw v)) w h

  abbrev pub throws : ErrorName → World → H → Made H
  throws e w h = goes_on Finishes (thrown e w h)
