use Rattle.std.proofs.Common.{◌≡◌, rules}
use Rattle.html_profile.proofs.NameKeys.{one_more}
use Rattle.html_profile.proofs.seen.Seen.add.Goals as goal

pub returns-clause-added : goal.returns-clause-added
returns-clause-added c =
    let same : c.in_ok-to_vec.field-0.items ≡ c.args.name.now = search rules in
    λ names had. one_more c.args.name.now c.in_ok-to_vec.field-0 c.args.self.now.names c.insert.new.self same c.in_ok-is_new.ensures.updates names had
