use Rattle.std.proofs.Common.{arith, sym, subst, IfSome}
use Rattle.timer_queue.specs.inner.Slots.{timers_in, Stands}
use Rattle.timer_queue.proofs.Numbered.{none-below, none-past, slot_timer, timer_stands}
use Rattle.timer_queue.proofs.slots.timer_of.Goals as goal

pub returns-then-id-eq0-clause-is : goal.returns-then-id-eq0-clause-is
returns-then-id-eq0-clause-is c = sym (none-below c.args.id 0 (timers_in c.args.slots.now) c.requires (omega arith))

pub returns-then-at-slots-clause-is : goal.returns-then-at-slots-clause-is
returns-then-at-slots-clause-is c = sym (none-past c.args.slots.now c.args.id c.requires (omega arith) (omega arith))

pub returns-clause-is : goal.returns-clause-is
returns-clause-is c = sym (slot_timer c.args.slots.now c.args.id _ c.requires (omega arith) (omega arith))

pub returns-clause-stands : goal.returns-clause-stands
returns-clause-stands c = subst (λ t. IfSome t (Stands c.args.id)) (slot_timer c.args.slots.now c.args.id _ c.requires (omega arith) (omega arith)) (timer_stands (timers_in c.args.slots.now) c.args.id c.requires (omega arith))
