use Rattle.html_profile.proofs.Shapes.{page_shape, whole_shape}
use Rattle.html_profile.proofs.laws.pages_have_shape.Goals as goal

pub returns-clause-page : goal.returns-clause-page
returns-clause-page c = page_shape

pub returns-clause-whole : goal.returns-clause-whole
returns-clause-whole c = whole_shape
