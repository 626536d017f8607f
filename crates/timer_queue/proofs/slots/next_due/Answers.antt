use Rattle.std.proofs.Common.{IfSome, sym, ◌∙◌, subst}
use Rattle.timer_queue.specs.Queue.{IsDueAmong}
use Rattle.timer_queue.specs.inner.Slots.{present, timers_in}
use Rattle.std.proofs.Common.{arith}
use Rattle.timer_queue.proofs.Least.{never_due, next_is_due, next_number, not_yet}
use Rattle.timer_queue.proofs.slots.next_due.Goals as goal

pub returns-then-least-clause-is : goal.returns-then-least-clause-is
returns-then-least-clause-is c = sym (never_due c.args.clock (timers_in c.args.slots.now) c.requires.numbered (sym c.least_due-least.ensures ∙ c.if-least.true))

pub returns-then-least-clock-clause-is : goal.returns-then-least-clock-clause-is
returns-then-least-clock-clause-is c = sym (not_yet c.args.clock (timers_in c.args.slots.now) c.requires.numbered (omega (arith, c.least_due-least.ensures, c.if-least-clock.true)))

pub returns-clause-is : goal.returns-clause-is
returns-clause-is c = c.first_with.ensures ∙ next_number c.args.clock c.least_due-least.result (timers_in c.args.slots.now) c.requires.numbered c.least_due-least.ensures c.if-least.false c.if-least-clock.false

pub returns-clause-due : goal.returns-clause-due
returns-clause-due c =
    subst (λ r. IfSome r (λ id. IsDueAmong id c.args.clock (present (timers_in c.args.slots.now))))
    (sym (c.first_with.ensures ∙ next_number c.args.clock c.least_due-least.result (timers_in c.args.slots.now) c.requires.numbered c.least_due-least.ensures c.if-least.false c.if-least-clock.false))
    (next_is_due c.args.clock (timers_in c.args.slots.now) c.requires.numbered)
