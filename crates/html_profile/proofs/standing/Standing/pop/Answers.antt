use Rattle.std.proofs.Common.{◌∙◌}
use Rattle.html_profile.proofs.LastOnes.{popped, stands_again}
use Rattle.html_profile.proofs.standing.Standing.pop.Goals as goal

pub returns-else-is_alone : goal.returns-else-is_alone
returns-else-is_alone c = λ names had.
    let left = popped c.args.name.now names c.pop.new.self.items c.args.self.now.alone.items c.in-Some.is_alone c.in-Some.ensures.items had.1 in
    (λ q. had.0 q ∙ stands_again c.args.name.now names c.in-Some.is_alone left.0 c.if-is_alone.false q, left.1)
