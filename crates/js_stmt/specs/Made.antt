-- What a step of a statement comes to, as plain data, and the step that it is among all rows.
use Rattle.std.specs.Prelude.{List}
use Rattle.js_value.specs.declared.value.Value.{Value}
use Rattle.js_value.specs.declared.value.Value.TheVariants.{Undefined}
use Rattle.js_heap.specs.World.{World}
use Rattle.js_term.specs.declared.completion.Completion.{Completion}
use Rattle.js_term.specs.Place.{Place}
use Rattle.js_term.specs.Table.{Step}
use Rattle.js_term.specs.Term.{Term, after, terms}
use Rattle.js_term.specs.Term.Term.{Stop, Val}
use Rattle.js_tree.specs.Trees.{Tree}
use Rattle.js_stmt.specs.Rows.{StmtRow}
use Rattle.js_stmt.specs.Setting.{Setting}

-- Finishes: the statement is finished. Completes: the completion stands in its place. Gives: the
-- value stands in a body's place. Becomes: the part of the text stands in the statement's place;
-- one that isn't there finishes it. GoesOn: the statement goes on as this row, over these values
-- and then these parts of its text.
pub data Progress : Type 0 where
  Finishes : Progress
  Completes : Completion → Progress
  Gives : Value → Progress
  Becomes : Tree → Progress
  GoesOn : StmtRow → List Value → List Tree → Progress

-- what a step comes to, with the world and the host after it
pub record Made (H : Type 0) : Type 0 where
  pub progress : Progress
  pub world : World
  pub host : H

abbrev pub made : {H : Type 0} → Progress → World → H → Made H
made g w h = record { progress = g; world = w; host = h }

module _ {R : Type 0} (S : Setting R) (p : Place) where
  -- what then stands in the place of a statement
  abbrev pub progress_term : Progress → Term R
  progress_term Finishes = Val Undefined
  progress_term (Completes k) = Stop k
  progress_term (Gives v) = Val v
  progress_term (Becomes t) = S.term p t
  progress_term (GoesOn r vs ts) = S.node p r (after vs (terms (S.term p) ts))

  abbrev pub step_of : {H : Type 0} → Made H → Step R H
  step_of m = Step.Gives (progress_term m.progress) m.world m.host
