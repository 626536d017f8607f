use Rattle.html_profile.proofs.NameKeys.{one_less}
use Rattle.html_profile.proofs.seen.Seen.remove.Goals as goal

pub returns : goal.returns
returns c = λ names had once. one_less c.args.name.now c.args.self.now.names c.remove.new.self c.remove.ensures.updates names had once
