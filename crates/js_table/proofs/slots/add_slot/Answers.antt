use Rattle.std.proofs.Common.{◌≡◌, ℕ, List, length, ap, arith, sym, ◌∙◌, rules}
use Rattle.std.proofs.lemmas.Grind.{common_steps}
use Rattle.std.specs.HashMap.{get}
use Rattle.js_value.specs.Same.{text_equal}
use Rattle.js_table.specs.inner.Slots.{place_of}
use Rattle.js_table.proofs.Places.{distinct-snoc, on_err, on_ok, place-behind, present-snoc, same_place, unnamed-place}
use Rattle.js_table.proofs.slots.add_slot.Goals as goal

pub returns-in_default-clause-ok : goal.returns-in_default-clause-ok
returns-in_default-clause-ok c = rw c.in_ok-push.ensures.items (present-snoc c.args.slots.now.items c.args.property)

pub returns-in_default-clause-distinct : goal.returns-in_default-clause-distinct
returns-in_default-clause-distinct c = rw c.in_ok-push.ensures.items (distinct-snoc c.args.slots.now.items c.args.property (unnamed-place c.args.property.name c.args.slots.now.items c.requires.other) c.requires.distinct)

pub returns-clause-ok : goal.returns-clause-ok
returns-clause-ok c = rw c.in_ok-push-2.ensures.items (present-snoc c.args.slots.now.items c.args.property)

pub returns-clause-distinct : goal.returns-clause-distinct
returns-clause-distinct c = rw c.in_ok-push-2.ensures.items (distinct-snoc c.args.slots.now.items c.args.property (unnamed-place c.args.property.name c.args.slots.now.items c.requires.other) c.requires.distinct)

pub returns-then-is_err-clause-index : goal.returns-then-is_err-clause-index
returns-then-is_err-clause-index c = λ x.
    let h : (y : List ℕ) → get text_equal c.in-Some.index.value.places y ≡ place_of y c.args.slots.now.items = rw c.in-Some.is at c.requires.index in
    let same = on_err _ (sym c.is_err.ensures.value ∙ c.if-is_err.true) c.note.ensures.err in
    let back : c.truncate.new.self.items ≡ c.args.slots.now.items = first_of (search rules, grind (arith, common_steps)) in
    same x ∙ ap (λ i. get text_equal i.places x) c.deref_mut.ensures.value ∙ h x ∙ ap (place_of x) (sym back)

pub returns-clause-index : goal.returns-clause-index
returns-clause-index c = λ x.
    let h : (y : List ℕ) → get text_equal c.in-Some.index.value.places y ≡ place_of y c.args.slots.now.items = rw c.in-Some.is at c.requires.index in
    let long : c.len-place.result ≡ length c.args.slots.now.items = first_of (search rules, grind (arith, common_steps)) in
    let new = on_ok _ (sym c.is_err.ensures.value ∙ c.if-is_err.false) c.note.ensures.ok in
    rw c.in_ok-push-2.ensures.items (place-behind x c.args.slots.now.items c.args.property (get text_equal c.deref_mut.result.now.places x) (get text_equal c.note.new.index.places x)
    (unnamed-place c.args.property.name c.args.slots.now.items c.requires.other) (ap (λ i. get text_equal i.places x) c.deref_mut.ensures.value ∙ h x) (new x ∙ same_place x c.in_ok-name.name c.args.property.name c.len-place.result (length c.args.slots.now.items) _ c.in_ok-name.ensures long))
