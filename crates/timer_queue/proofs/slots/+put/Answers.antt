use Rattle.std.proofs.Common.{◌≡◌, ◌+◌, ◌-◌, ◌/◌, length, set, refl, sym, ap, ◌∙◌, subst, arith, rules}
use Rattle.std.proofs.lemmas.List.{length-take, length-drop}
use Rattle.timer_queue.specs.inner.Slots.{IsKept, middle, timers_in}
use Rattle.timer_queue.proofs.Trees.{before_kept, behind_kept, mid_at_end, put_before, put_behind, put_root, rest_is}
use Rattle.timer_queue.proofs.slots.+put.Goals as goal

pub put_below-put-requires : goal.put_below-put-requires
put_below-put-requires t c =
    let n = length-take (length c.args.slots.now / 2) c.args.slots.now in
    (first_of (omega arith, search rules, omega (arith, c.decreases)), (omega (arith, c.if-at-middle.true), before_kept c.args.slots.now c.requires.kept))

pub put_below-returns-then-at-middle-clause-halves : goal.put_below-returns-then-at-middle-clause-halves
put_below-returns-then-at-middle-clause-halves t c =
    (put_before c.args.slots.now c.put.new.slots _ c.args.at c.args.timer refl c.if-at-middle.true c.requires.kept c.put.ensures.kept c.put.ensures.timers).0

pub put_below-returns-then-at-middle-clause-timers : goal.put_below-returns-then-at-middle-clause-timers
put_below-returns-then-at-middle-clause-timers t c =
    (put_before c.args.slots.now c.put.new.slots _ c.args.at c.args.timer refl c.if-at-middle.true c.requires.kept c.put.ensures.kept c.put.ensures.timers).1

pub put_below-put-requires-then-at-middle-2 : goal.put_below-put-requires-then-at-middle-2
put_below-put-requires-then-at-middle-2 t c =
    let r = rest_is c.args.slots.now in
    let n = ap length r in
    let m = length-drop (length c.args.slots.now / 2 + 1) c.args.slots.now in
    (first_of (omega arith, search rules, omega (arith, c.decreases)), (omega (arith, c.if-at-middle-2.true, c.requires.within), subst IsKept (sym r) (behind_kept c.args.slots.now c.requires.kept)))

pub put_below-returns-then-at-middle-2-clause-halves : goal.put_below-returns-then-at-middle-2-clause-halves
put_below-returns-then-at-middle-2-clause-halves t c =
    let ss = c.args.slots.now in
    let timers = c.put-then-at-middle-2.ensures.timers ∙ ap (λ xs. set (timers_in xs) (c.args.at - middle ss - 1) c.args.timer) (rest_is ss) in
    (put_behind ss c.put-then-at-middle-2.new.slots _ c.args.at c.args.timer (mid_at_end (middle ss + 1) ss c.put-then-at-middle-2.new.slots) c.if-at-middle-2.true c.requires.within c.requires.kept c.put-then-at-middle-2.ensures.kept timers).0

pub put_below-returns-then-at-middle-2-clause-timers : goal.put_below-returns-then-at-middle-2-clause-timers
put_below-returns-then-at-middle-2-clause-timers t c =
    let ss = c.args.slots.now in
    let timers = c.put-then-at-middle-2.ensures.timers ∙ ap (λ xs. set (timers_in xs) (c.args.at - middle ss - 1) c.args.timer) (rest_is ss) in
    (put_behind ss c.put-then-at-middle-2.new.slots _ c.args.at c.args.timer (mid_at_end (middle ss + 1) ss c.put-then-at-middle-2.new.slots) c.if-at-middle-2.true c.requires.within c.requires.kept c.put-then-at-middle-2.ensures.kept timers).1

pub put_below-returns-clause-halves : goal.put_below-returns-clause-halves
put_below-returns-clause-halves t c = (put_root c.args.slots.now _ (omega (arith, c.requires.within)) c.requires.kept).0

pub put_below-returns-clause-timers : goal.put_below-returns-clause-timers
put_below-returns-clause-timers t c =
    let e : middle c.args.slots.now ≡ c.args.at = omega (arith, c.if-at-middle.false, c.if-at-middle-2.false) in
    (put_root c.args.slots.now _ (omega (arith, c.requires.within)) c.requires.kept).1 ∙ ap (λ j. set (timers_in c.args.slots.now) j c.args.timer) e
