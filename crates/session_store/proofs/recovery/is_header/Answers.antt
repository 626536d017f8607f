use Rattle.std.proofs.Common.{◌≡◌, ◌∙◌, ℕ, ◌++◌, List, ap, rules, IsTrue, true}
use Rattle.session_store.specs.Session.{magic}
use Rattle.session_store.proofs.Told.{one_of}
use Rattle.session_store.proofs.recovery.is_header.Goals as goal

pub returns-in-Some-len1 : goal.returns-in-Some-len1
returns-in-Some-len1 c =
    let one = one_of c.in-Some-len1.field-0.now c.in-Some-len1.len_at_least c.in-Some-len1.len_below in
    let is : c.args.front.now ≡ magic ++ c.in-Some-len1.field-0.now = search rules in
    let yes : IsTrue true = search rules in
    ((λ _. (one.0, is ∙ ap (λ (l : List ℕ). magic ++ l) one.1)), (λ _. yes))
