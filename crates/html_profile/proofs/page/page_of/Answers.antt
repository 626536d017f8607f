use Rattle.std.proofs.Common.{rules}
use Rattle.html_profile.specs.Building.{state_of}
use Rattle.html_profile.proofs.Numbers.{made_coherent}
use Rattle.html_profile.proofs.page.page_of.Goals as goal

pub invariant_of-result : goal.invariant_of-result
invariant_of-result c = (search rules, made_coherent _ _ _ (state_of c.args.builder) c.requires.made.2 c.requires.made.3)
