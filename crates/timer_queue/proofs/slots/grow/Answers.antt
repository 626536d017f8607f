use Rattle.std.proofs.Common.{◌≡◌, ℕ, ◌+◌, ◌-◌, ◌*◌, ◌++◌, List, length, take, set, replicate, None, ap, ◌∙◌, arith, rules}
use Rattle.std.proofs.lemmas.Grind.{common_steps}
use Rattle.std.proofs.lemmas.List.{take_all}
use Rattle.timer_queue.specs.declared.slots.Slot.{Slot}
use Rattle.timer_queue.specs.declared.slots.TheConstants.{NEVER}
use Rattle.timer_queue.specs.inner.Slots.{least_due, timers_in}
use Rattle.timer_queue.proofs.Trees.{grown}
use Rattle.timer_queue.proofs.slots.grow.Goals as goal

-- the list after `resize`, and after the root was put into it
resized : (ss zs : List Slot) (n : ℕ) (v x : Slot) → n ≡ length ss → zs ≡ take (2 * n + 1) ss ++ replicate (2 * n + 1 - n) v → set zs n x ≡ set (ss ++ replicate (length ss + 1) v) (length ss) x
resized ss zs n v x e f =
    let long : 2 * n + 1 - n ≡ length ss + 1 = omega arith in
    ap (λ r. set r n x) (f ∙ ap (λ r. r ++ replicate (2 * n + 1 - n) v) (take_all (2 * n + 1) ss (omega arith)) ∙ ap (λ j. ss ++ replicate j v) long)
    ∙ ap (λ j. set (ss ++ replicate (length ss + 1) v) j x) e

pub returns-clause-kept : goal.returns-clause-kept
returns-clause-kept c =
    let long : c.len-before.result ≡ length c.args.slots.now.items = first_of (search rules, grind (arith, common_steps)) in
    let v : Slot = record { timer = None; least = NEVER } in
    let x : Slot = record { timer = None; least = c.least_due-least.result } in
    let items : c.resize.new.self.items ≡ take (2 * c.len-before.result + 1) c.args.slots.now.items ++ replicate (2 * c.len-before.result + 1 - c.len-before.result) v = first_of (search rules, cc, grind (arith, common_steps)) in
    let least : c.least_due-least.result ≡ least_due (timers_in c.args.slots.now.items) = c.least_due-least.ensures ∙ ap (λ r. least_due (timers_in r)) c.deref.ensures.value in
    (grown c.args.slots.now.items (set c.resize.new.self.items c.len-before.result x) c.least_due-least.result c.requires.kept least (resized c.args.slots.now.items c.resize.new.self.items c.len-before.result v x long items)).0

pub returns-clause-timers : goal.returns-clause-timers
returns-clause-timers c =
    let long : c.len-before.result ≡ length c.args.slots.now.items = first_of (search rules, grind (arith, common_steps)) in
    let v : Slot = record { timer = None; least = NEVER } in
    let x : Slot = record { timer = None; least = c.least_due-least.result } in
    let items : c.resize.new.self.items ≡ take (2 * c.len-before.result + 1) c.args.slots.now.items ++ replicate (2 * c.len-before.result + 1 - c.len-before.result) v = first_of (search rules, cc, grind (arith, common_steps)) in
    let least : c.least_due-least.result ≡ least_due (timers_in c.args.slots.now.items) = c.least_due-least.ensures ∙ ap (λ r. least_due (timers_in r)) c.deref.ensures.value in
    (grown c.args.slots.now.items (set c.resize.new.self.items c.len-before.result x) c.least_due-least.result c.requires.kept least (resized c.args.slots.now.items c.resize.new.self.items c.len-before.result v x long items)).1
