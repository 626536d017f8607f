-- The few forms of which what rows make is made, and its step.
use Rattle.std.specs.Prelude.{ℕ, List, [], ◌∷◌, ◌++◌, slice_get, unwrap_or}
use Rattle.js_value.specs.declared.value.Value.{Value}
use Rattle.js_value.specs.declared.value.Value.TheVariants as value
use Rattle.js_heap.specs.World.{World}
use Rattle.js_reference.specs.Errors.{Answer, error_value, thrown, with_error}
use Rattle.js_reference.specs.declared.error.ErrorName.{ErrorName}
use Rattle.js_term.specs.declared.completion.Completion.TheVariants.{Throw}
use Rattle.js_term.specs.Place.{Place}
use Rattle.js_term.specs.Table.{Step}
use Rattle.js_term.specs.Term.{Term, Terms, after, terms}
use Rattle.js_term.specs.Term.Term.{Val, Stop, Node}
use Rattle.js_term.specs.Term.Terms.{Nil, Cons}
use Rattle.js_tree.specs.Trees.{Tree}
use Rattle.js_operands.specs.Made.{Conversion, Made}
use Rattle.js_operands.specs.Rows.{ExprRow}
use Rattle.js_operands.specs.Setting.{Setting}

-- the operand at a place; undefined where there is none, as no text has it
abbrev pub operand_at : List Value → ℕ → Value
operand_at vs n = unwrap_or (slice_get vs n) value.Undefined

module _ {H : Type 0} where
  -- the value of an operation stands in the node's place, or the throw does
  abbrev pub gives : Answer H → Made H
  gives (Answer.Returns v w h) = Made.Gives v w h
  gives (Answer.Throws v w h) = Made.Throws v w h

  -- with the value of an operation the node goes on
  abbrev pub goes_on : (Value → World → H → Made H) → Answer H → Made H
  goes_on next (Answer.Returns v w h) = next v w h
  goes_on next (Answer.Throws v w h) = Made.Throws v w h

  abbrev pub throws : ErrorName → World → H → Made H
  throws e w h = gives (thrown e w h)

  -- it goes on as this row: over these values and that one, and then these parts of the text
  abbrev pub with_value : ExprRow → List Value → List Tree → Value → World → H → Made H
  with_value r vs ts v w h = Made.GoesOn r (vs ++ v ∷ []) ts w h

  -- behind the step that reads a call's function: its base is `this`, and its arguments come
  abbrev pub call_node : List Tree → (base callee : Value) → World → H → Made H
  call_node ts e f w h = Made.GoesOn ExprRow.CallOn (f ∷ e ∷ []) ts w h

-- a step that throws the error
abbrev pub throw_step : {R H : Type 0} → ErrorName → World → H → Step R H
throw_step e w h = Step.Gives (Stop (Throw (error_value w e))) (with_error w e) h

module _ {R H : Type 0} (S : Setting R H) (p : Place) where
  -- a node of this place over its operands
  abbrev pub over : ExprRow → Terms R → Term R
  over r ts = Node (S.row p r) ts

  -- the throw of a conversion stands in the operand's place, or the call of a method does, in a
  -- node that takes its answer
  abbrev pub conversion_term : Conversion → Term R
  conversion_term (Conversion.Fails v) = Stop (Throw v)
  conversion_term (Conversion.Tries v f ms) =
      let call : Term R = over ExprRow.CallOn (after (f ∷ v ∷ []) Nil) in
      over (ExprRow.Converting ms) (Cons (Val v) (Cons call Nil))

  -- the step of what is made, where these operands stand behind one that is in conversion
  abbrev pub step_before : Terms R → Made H → Step R H
  step_before ts (Made.Gives v w h) = Step.Gives (Val v) w h
  step_before ts (Made.Throws v w h) = Step.Gives (Stop (Throw v)) w h
  step_before ts (Made.Becomes t w h) = Step.Gives (S.term p t) w h
  step_before ts (Made.Converting k w h) = Step.Gives (conversion_term k) w h
  step_before ts (Made.GoesOn r vs us w h) =
      Step.Gives (over r (after vs (terms (S.term p) us))) w h
  step_before ts (Made.Converts r before k behind w h) =
      Step.Gives (over r (after before (Cons (conversion_term k) (after behind ts)))) w h
  step_before ts (Made.Calls f q w h) = S.call p w h f q

  -- the step of what is made of a node whose operands are values
  abbrev pub step_of : Made H → Step R H
  step_of m = step_before Nil m
