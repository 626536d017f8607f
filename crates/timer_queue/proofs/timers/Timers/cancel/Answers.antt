use Rattle.std.proofs.Common.{◌≡◌, ◌-◌, List, None, set, sym, ap, ◌∙◌}
use Rattle.timer_queue.specs.Queue.{Queue, Timer, timer_of, cancelled}
use Rattle.timer_queue.specs.inner.Slots.{present, timers_in}
use Rattle.timer_queue.proofs.Numbered.{changed_holds, changed-unnamed, none_stands}
use Rattle.timer_queue.proofs.timers.Timers.cancel.Goals as goal

pub invariant_of-self : goal.invariant_of-self
invariant_of-self c =
    let timers = c.place.ensures.timers ∙ ap (λ n. set (timers_in c.self.inside.slots.items) (n - 1) None) c.in-Some.ensures.stands.number in
    (changed_holds c.self.inside.given c.self.inside.slots.items c.place.new.slots.items c.args.id (λ t. None) c.in-Some.timer c.self.invariant c.in-Some.ensures.within.0 (ap (λ xs. timer_of c.args.id (present (timers_in xs))) (sym c.deref.ensures.value) ∙ sym c.in-Some.ensures.is) c.place.ensures.kept timers (none_stands c.args.id)).0

pub returns-in-Some : goal.returns-in-Some
returns-in-Some c =
    let timers = c.place.ensures.timers ∙ ap (λ n. set (timers_in c.self.inside.slots.items) (n - 1) None) c.in-Some.ensures.stands.number in
    let made : List Timer → Queue = λ ts. record { given = c.self.inside.given; timers = ts } in
    ap made (changed_holds c.self.inside.given c.self.inside.slots.items c.place.new.slots.items c.args.id (λ t. None) c.in-Some.timer c.self.invariant c.in-Some.ensures.within.0 (ap (λ xs. timer_of c.args.id (present (timers_in xs))) (sym c.deref.ensures.value) ∙ sym c.in-Some.ensures.is) c.place.ensures.kept timers (none_stands c.args.id)).1
    ∙ ap (cancelled c.args.id) c.self.view_is

pub returns-in-None : goal.returns-in-None
returns-in-None c =
    let made : List Timer → Queue = λ ts. record { given = c.self.inside.given; timers = ts } in
    let none : timer_of c.args.id (present (timers_in c.self.inside.slots.items)) ≡ None = ap (λ xs. timer_of c.args.id (present (timers_in xs))) (sym c.deref.ensures.value) ∙ sym c.in-None.ensures.is in
    sym c.self.view_is ∙ ap made (sym (changed-unnamed c.args.id (λ t. None) (present (timers_in c.self.inside.slots.items)) none)) ∙ ap (cancelled c.args.id) c.self.view_is
