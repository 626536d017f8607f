use Rattle.std.proofs.Common.{ap, ◌∙◌}
use Rattle.timer_queue.specs.inner.Slots.{least_due, timers_in}
use Rattle.timer_queue.proofs.Trees.{of_both, rest_is, settled, timers-kept}
use Rattle.timer_queue.proofs.slots.settle.Goals as goal

pub returns-clause-kept : goal.returns-clause-kept
returns-clause-kept c =
    settled c.args.slots.now _ _ c.requires.some c.requires.halves
    (of_both _ _ _ _ _ _ _ _ c.min-root.ensures c.min.ensures c.due_in.ensures c.least_due-before.ensures (c.least_due-behind.ensures ∙ ap (λ r. least_due (timers_in r)) (rest_is c.args.slots.now)))

pub returns-clause-timers : goal.returns-clause-timers
returns-clause-timers c = timers-kept c.args.slots.now _ _ _
