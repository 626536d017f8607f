use Rattle.html_profile.proofs.Nesting.{page_nested, whole_nested, one_nesting}
use Rattle.html_profile.proofs.laws.pages_are_nested.Goals as goal

pub returns-clause-page : goal.returns-clause-page
returns-clause-page c = page_nested

pub returns-clause-whole : goal.returns-clause-whole
returns-clause-whole c = whole_nested

pub returns-clause-one : goal.returns-clause-one
returns-clause-one c = one_nesting
