use Rattle.std.proofs.Common.{◌+◌, List, refl, ap, ◌∙◌, arith}
use Rattle.timer_queue.specs.Queue.{Queue, Timer, added}
use Rattle.timer_queue.specs.inner.Slots.{Stands}
use Rattle.timer_queue.proofs.Numbered.{added_holds}
use Rattle.timer_queue.proofs.timers.Timers.add.Goals as goal

pub invariant_of-self-2 : goal.invariant_of-self-2
invariant_of-self-2 c =
    let t : Timer = record { id = c.self.inside.given + 1; f = c.args.f; due = c.args.due; every = c.args.every } in
    let s : Stands (c.self.inside.given + 1) t = record { number = refl; due = omega (arith, c.requires.due); every = c.requires.every } in
    (added_holds c.self.inside.given c.self.inside.slots.items c.make_room.new.slots.items c.place.new.slots.items t c.self.invariant c.in_ok-make_room.ensures.timers c.in_ok-make_room.ensures.room c.place.ensures.kept c.place.ensures.timers s (omega (arith, c.if-self-ge-TIMER_LIMIT.false))).0

pub returns-clause-added : goal.returns-clause-added
returns-clause-added c =
    let t : Timer = record { id = c.self.inside.given + 1; f = c.args.f; due = c.args.due; every = c.args.every } in
    let s : Stands (c.self.inside.given + 1) t = record { number = refl; due = omega (arith, c.requires.due); every = c.requires.every } in
    let made : List Timer → Queue = λ ts. record { given = c.self.inside.given + 1; timers = ts } in
    ap made (added_holds c.self.inside.given c.self.inside.slots.items c.make_room.new.slots.items c.place.new.slots.items t c.self.invariant c.in_ok-make_room.ensures.timers c.in_ok-make_room.ensures.room c.place.ensures.kept c.place.ensures.timers s (omega (arith, c.if-self-ge-TIMER_LIMIT.false))).1
    ∙ ap (added c.args.f c.args.due c.args.every) c.self.view_is
