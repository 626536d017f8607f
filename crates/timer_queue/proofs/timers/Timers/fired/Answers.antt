use Rattle.std.proofs.Common.{◌-◌, List, set, sym, ap, ◌∙◌}
use Rattle.timer_queue.specs.Queue.{Queue, Timer, timer_of, fired, set_anew}
use Rattle.timer_queue.specs.inner.Slots.{present, timers_in}
use Rattle.timer_queue.proofs.Numbered.{anew_stands, changed_holds}
use Rattle.timer_queue.proofs.timers.Timers.fired.Goals as goal

pub invariant_of-self : goal.invariant_of-self
invariant_of-self c =
    let timers = c.place.ensures.timers ∙ ap (λ n. set (timers_in c.self.inside.slots.items) (n - 1) c.set_anew-after.result) c.in-Some.ensures.stands.number ∙ ap (λ x. set (timers_in c.self.inside.slots.items) (c.args.id - 1) x) c.set_anew-after.ensures in
    (changed_holds c.self.inside.given c.self.inside.slots.items c.place.new.slots.items c.args.id (set_anew c.args.clock) c.in-Some.timer c.self.invariant c.in-Some.ensures.within.0 (ap (λ xs. timer_of c.args.id (present (timers_in xs))) (sym c.deref.ensures.value) ∙ sym c.in-Some.ensures.is) c.place.ensures.kept timers (anew_stands c.args.clock c.args.id c.in-Some.timer c.requires.clock c.in-Some.ensures.stands)).0

pub returns-clause-after : goal.returns-clause-after
returns-clause-after c =
    let timers = c.place.ensures.timers ∙ ap (λ n. set (timers_in c.self.inside.slots.items) (n - 1) c.set_anew-after.result) c.in-Some.ensures.stands.number ∙ ap (λ x. set (timers_in c.self.inside.slots.items) (c.args.id - 1) x) c.set_anew-after.ensures in
    let made : List Timer → Queue = λ ts. record { given = c.self.inside.given; timers = ts } in
    ap made (changed_holds c.self.inside.given c.self.inside.slots.items c.place.new.slots.items c.args.id (set_anew c.args.clock) c.in-Some.timer c.self.invariant c.in-Some.ensures.within.0 (ap (λ xs. timer_of c.args.id (present (timers_in xs))) (sym c.deref.ensures.value) ∙ sym c.in-Some.ensures.is) c.place.ensures.kept timers (anew_stands c.args.clock c.args.id c.in-Some.timer c.requires.clock c.in-Some.ensures.stands)).1
    ∙ ap (fired c.args.id c.args.clock) c.self.view_is
