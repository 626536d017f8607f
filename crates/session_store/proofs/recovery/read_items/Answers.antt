use Rattle.std.proofs.Common.{arith, rules, ◌≡◌, ◌++◌, ◌∷◌, []}
use Rattle.session_store.proofs.Items.{none_here, one_more}
use Rattle.session_store.proofs.recovery.read_items.Goals as goal

pub loop-at-preserved : goal.loop-at-preserved
loop-at-preserved c =
    let begins = rw c.in-Some.is at c.in_ok-item.ensures in
    let more = one_more c.args.payload.now c.loop-at.items.items c.in-Some.item c.loop-at.at c.in-Some.len c.loop-at.invariant.1 c.loop-at.invariant.2 c.loop-at.invariant.0 begins in
    let pushed : c.push.new.self.items ≡ c.loop-at.items.items ++ c.in-Some.item ∷ [] = search rules in
    rw pushed more

pub returns-in-None : goal.returns-in-None
returns-in-None c =
    none_here c.args.payload.now c.loop-at.items.items c.loop-at.at c.loop-at.invariant.1 c.loop-at.invariant.2 (omega arith) (rw c.in-None.is at c.in_ok-item.ensures)
