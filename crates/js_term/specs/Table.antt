-- A table of rows: all that the search for what is due is given.
use Rattle.std.specs.Prelude.{ℕ, List, Bool, Option}
use Rattle.js_value.specs.declared.value.HidId.{HidId}
use Rattle.js_value.specs.declared.value.Value.{Value}
use Rattle.js_heap.specs.World.{World}
use Rattle.js_term.specs.declared.completion.Completion.{Completion}
use Rattle.js_term.specs.declared.context.Context.{Context}
use Rattle.js_term.specs.Term.{Hidden, Term, Terms}

-- what the outside is asked: the clock, a random word, or the text that a source leads to
pub data Question : Type 0 where
  Now : Question
  Random : Question
  Source : List ℕ → Question

-- what a row's step gives: what stands in the node's place, and world and host after it; or a
-- question, with which nothing changes
pub data Step (R H : Type 0) : Type 0 where
  Gives : Term R → World → H → Step R H
  Asks : Question → Step R H

-- the hidden function that a node enters, and the values that it has there
pub record Entry : Type 0 where
  pub function : HidId
  pub values : List Value

-- what a hidden statement before the apply leaves
pub record Left (H : Type 0) : Type 0 where
  pub values : List Value
  pub host : H

-- A table is given for one answer, where there is one: what asks is a question in the table of no
-- answer, and a step in that of its answer. no_step: the row has no step of its own. inner: where
-- its operands are evaluated. is_early: a node whose first operands are these values makes a step
-- before the next one is evaluated. early: that step, of the operands behind as they stand. make:
-- the step of a node whose operands are values. meets: the step of a node which a completion has
-- reached. enters: the hidden function that is entered first, where there is one. before: its next
-- statement before the apply, where one is left. behind: the same from the apply on, by whether a
-- completion is kept.
pub record Table (R H : Type 0) : Type 0 where
  pub no_step : R → Bool
  pub inner : R → Context → Context
  pub is_early : R → List Value → Bool
  pub early : Context → World → H → R → List Value → Terms R → Step R H
  pub make : Context → World → H → R → List Value → Step R H
  pub meets : Context → World → H → R → Completion → Step R H
  pub enters : Context → World → H → R → List Value → Option Entry
  pub before : World → H → Hidden → R → List Value → Option (Left H)
  pub behind : H → Hidden → (stopped : Bool) → Option H
