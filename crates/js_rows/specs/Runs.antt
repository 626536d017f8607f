-- So many steps of a term, one after the other.
use Rattle.std.specs.Prelude.{ℕ, zero, suc, false}
use Rattle.js_heap.specs.World.{World}
use Rattle.js_term.specs.declared.context.Context.{Context}
use Rattle.js_term.specs.Contraction.{Contraction, contract}
use Rattle.js_term.specs.Contraction.Contraction.{Ends, Stops, Steps, Questions}
use Rattle.js_term.specs.Table.{Table}
use Rattle.js_term.specs.Term.{Term}

module _ {R H : Type 0} (T : Table R H) (c : Context) where
  -- what comes of a term after so many steps, or of the step that is its end or a question
  abbrev pub steps : ℕ → Term R → World → H → Contraction R H
  steps zero t w h = Steps false t w h
  steps (suc n) t w h = elim (contract T c w h t) [
    | Ends v ↦ Ends v
    | Stops k ↦ Stops k
    | Steps hidden u w' h' ↦ steps n u w' h'
    | Questions q ↦ Questions q
  ]
