use Rattle.std.proofs.Common.{◌≡◌, ◌+◌, ◌/◌, ◌<◌, length, None, sym, ap, ◌∙◌, subst, arith, rules}
use Rattle.std.proofs.lemmas.List.{length-take, length-drop}
use Rattle.std.specs.Option.{option_map}
use Rattle.timer_queue.specs.Queue.{Timer}
use Rattle.timer_queue.specs.declared.slots.Slot.{Slot}
use Rattle.timer_queue.specs.inner.Slots.{IsKept, before, first_with, least_due, timers_in}
use Rattle.timer_queue.proofs.Trees.{before_kept, behind_kept, found_before, found_behind, found_root, least-parts, rest_is, some_from}
use Rattle.timer_queue.proofs.slots.+first_with.Goals as goal

pub least_due-requires : goal.least_due-requires
least_due-requires t c = before_kept c.args.slots.now c.requires.kept

pub first_with-requires : goal.first_with-requires
first_with-requires t c =
    let d : Slot = record { timer = None; least = 0 } in
    let h : 0 < length c.args.slots.now = some_from _ _ c.is_empty.ensures c.if-is_empty.false in
    let l = least-parts c.args.slots.now d h in
    let n = length-take (length c.args.slots.now / 2) c.args.slots.now in
    (first_of (omega arith, search rules, omega (arith, c.decreases)), (before_kept c.args.slots.now c.requires.kept, (omega (arith, c.requires.least, l), c.requires.some)))

pub returns-then-least_due-due : goal.returns-then-least_due-due
returns-then-least_due-due t c =
    let d : Slot = record { timer = None; least = 0 } in
    let h : 0 < length c.args.slots.now = some_from _ _ c.is_empty.ensures c.if-is_empty.false in
    let e : least_due (timers_in (before c.args.slots.now)) ≡ c.args.due = sym c.least_due.ensures ∙ c.if-least_due-due.true in
    c.first_with.ensures ∙ ap (option_map (λ (t : Timer). t.id)) (sym (found_before c.args.slots.now d c.args.due h c.requires.some e))

pub returns-then-due_in-due : goal.returns-then-due_in-due
returns-then-due_in-due t c =
    let d : Slot = record { timer = None; least = 0 } in
    let h : 0 < length c.args.slots.now = some_from _ _ c.is_empty.ensures c.if-is_empty.false in
    let l = least-parts c.args.slots.now d h in
    let n : c.args.due < least_due (timers_in (before c.args.slots.now)) = omega (arith, c.requires.least, l, c.least_due.ensures, c.if-least_due-due.false) in
    c.number_of.ensures ∙ ap (option_map (λ (t : Timer). t.id)) (sym (found_root c.args.slots.now _ c.args.due h n (sym c.due_in.ensures ∙ c.if-due_in-due.true)))

pub first_with-requires-2 : goal.first_with-requires-2
first_with-requires-2 t c =
    let d : Slot = record { timer = None; least = 0 } in
    let h : 0 < length c.args.slots.now = some_from _ _ c.is_empty.ensures c.if-is_empty.false in
    let l = least-parts c.args.slots.now d h in
    let r = rest_is c.args.slots.now in
    let k = ap (λ xs. least_due (timers_in xs)) r in
    let n = ap length r in
    let m = length-drop (length c.args.slots.now / 2 + 1) c.args.slots.now in
    (first_of (omega arith, search rules, omega (arith, c.decreases)), (subst IsKept (sym r) (behind_kept c.args.slots.now c.requires.kept), (omega (arith, c.requires.least, l, k), c.requires.some)))

pub returns : goal.returns
returns t c =
    let d : Slot = record { timer = None; least = 0 } in
    let h : 0 < length c.args.slots.now = some_from _ _ c.is_empty.ensures c.if-is_empty.false in
    let l = least-parts c.args.slots.now d h in
    let n : c.args.due < least_due (timers_in (before c.args.slots.now)) = omega (arith, c.requires.least, l, c.least_due.ensures, c.if-least_due-due.false) in
    c.first_with-2.ensures ∙ ap (λ xs. option_map (λ (t : Timer). t.id) (first_with c.args.due (timers_in xs))) (rest_is c.args.slots.now)
    ∙ ap (option_map (λ (t : Timer). t.id)) (sym (found_behind c.args.slots.now _ c.args.due h n (λ e. c.if-due_in-due.false (c.due_in.ensures ∙ e))))
