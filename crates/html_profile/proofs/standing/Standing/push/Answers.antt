use Rattle.html_profile.proofs.LastOnes.{pushed}
use Rattle.html_profile.proofs.standing.Standing.push.Goals as goal

pub returns : goal.returns
returns c = λ names had. (
  c.in_ok-is_new.ensures.added names had.0,
  pushed c.args.name.now names c.args.self.now.alone.items c.push.new.self.items c.in_ok-is_new.is_new c.in_ok-push.ensures.items (c.in_ok-is_new.ensures.new names had.0) had.1,
)
