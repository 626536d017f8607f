use Rattle.html_profile.proofs.Spans.{page_lies, whole_lies}
use Rattle.html_profile.proofs.laws.scripts_lie_within.Goals as goal

pub returns-clause-page : goal.returns-clause-page
returns-clause-page c = page_lies

pub returns-clause-whole : goal.returns-clause-whole
returns-clause-whole c = whole_lies
