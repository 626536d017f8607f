use Rattle.std.proofs.Common.{arith, ◌≡◌, ◌++◌, ◌∷◌, [], List, ℕ, subst, drop, ap, ◌∙◌}
use Rattle.std.proofs.lemmas.List.{take_rest, append-nil, drop_all}
use Rattle.input_log.specs.Items.{BeginsWithNone}
use Rattle.session_store.specs.Session.{payload_of}
use Rattle.session_store.proofs.Items.{one_more}
use Rattle.mugshot_cli.proofs.LaterKinds.{all_read, stops_here}
use Rattle.mugshot_cli.proofs.damage.has_later_kind.Goals as goal

pub loop-at-preserved : goal.loop-at-preserved
loop-at-preserved c =
    let begins = rw c.in-Some.is at c.in_ok-len.ensures in
    let so_far = c.loop-at.invariant.1 in
    let more = one_more c.args.payload.now so_far.0 begins.0 c.loop-at.at c.in-Some.len so_far.1 so_far.2 c.loop-at.invariant.0 begins.1 in
    (more.0, (so_far.0 ++ begins.0 ∷ [], more.1, more.2))

pub returns-in-None : goal.returns-in-None
returns-in-None c =
    let none = rw c.in-None.is at c.in_ok-len.ensures in
    let so_far = c.loop-at.invariant.1 in
    let P : List ℕ → Type 0 = λ l. BeginsWithNone l in
    rw c.is_later_kind.ensures (stops_here c.args.payload.now so_far.0 c.loop-at.at so_far.1 so_far.2 c.loop-at-test.true (subst P (take_rest c.args.payload.now c.loop-at.at) none))

pub returns : goal.returns
returns c =
    let so_far = c.loop-at.invariant.1 in
    let end : drop c.loop-at.at c.args.payload.now ≡ [] = drop_all c.loop-at.at c.args.payload.now (omega arith) in
    let is : c.args.payload.now ≡ payload_of so_far.0 = so_far.2 ∙ ap (λ (l : List ℕ). payload_of so_far.0 ++ l) end ∙ append-nil (payload_of so_far.0) in
    ((λ never. absurd (cc never)), (λ has. absurd (all_read c.args.payload.now so_far.0 so_far.1 is has)))
