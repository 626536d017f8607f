use Rattle.std.proofs.Common.{◌≡◌, ℕ, List, None, cond, ap, sym, ◌∙◌}
use Rattle.std.specs.HashMap.{get}
use Rattle.js_value.specs.Same.{text_equal}
use Rattle.js_table.specs.inner.Slots.{place_of}
use Rattle.js_table.proofs.Places.{place_of-clear}
use Rattle.js_table.proofs.slots.clear.Goals as goal

pub returns-in-Some-clause-index : goal.returns-in-Some-clause-index
returns-in-Some-clause-index c = λ x.
    let h : (y : List ℕ) → get text_equal c.in-Some.index.value.places y ≡ place_of y c.args.slots.now.items = rw c.in-Some.is at c.requires.index in
    ap (λ i. get text_equal i.places x) c.deref_mut-in-Some.ensures.value
    ∙ c.swap_remove.ensures.updates.0 x
    ∙ ap (λ i. cond (text_equal c.args.name.now x) None (get text_equal i.places x)) c.deref_mut.ensures.value
    ∙ ap (cond (text_equal c.args.name.now x) None) (h x)
    ∙ sym (place_of-clear c.args.name.now x c.args.slots.now.items c.args.place c.requires.distinct c.requires.place)
