-- What an operation gave is its definition's answer. Where memory ran out nothing is said: the run
-- ends.
use Rattle.std.specs.Prelude.{◌≡◌, List, ◌∷◌}
use Rattle.js_value.specs.declared.value.Value.{Value}
use Rattle.js_heap.specs.World.{World}
use Rattle.js_reference.specs.Errors.{Answer}
use Rattle.js_reference.specs.Errors.Answer.{Returns, Throws}
use Rattle.js_reference.specs.declared.answered.Answered.{Answered}
use Rattle.js_reference.specs.declared.answered.Answered.TheVariants as answered

-- what was given, with the world and the host after it
abbrev pub answer : {H : Type 0} → Answered → World → H → Answer H
answer (answered.Returns v) w h = Returns v w h
answer (answered.Throws v) w h = Throws v w h

abbrev pub Gives : {H : Type 0} → Answer H → Answered → World → H → Type 0
Gives row a w h = row ≡ answer a w h

-- the value that was given or thrown, in front of others
abbrev pub answered_names : Answered → List Value → List Value
answered_names (answered.Returns v) vs = v ∷ vs
answered_names (answered.Throws v) vs = v ∷ vs
