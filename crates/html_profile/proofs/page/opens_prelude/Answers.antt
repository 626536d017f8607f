use Rattle.std.proofs.Common.{ap, refl, ◌∙◌}
use Rattle.html_profile.specs.Marks.{opens}
use Rattle.html_profile.specs.Page.{opens_prelude}
use Rattle.html_profile.proofs.page.opens_prelude.Goals as goal

pub returns-clause-is : goal.returns-clause-is
unfolding opens_prelude
returns-clause-is c = c.starts_with.ensures.value ∙ ap (opens c.args.text.now) (c.as_bytes.ensures.value ∙ refl)
