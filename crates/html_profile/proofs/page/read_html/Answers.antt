use Rattle.html_profile.specs.Building.{state_of}
use Rattle.html_profile.proofs.OnePage.{one_page}
use Rattle.html_profile.proofs.Utf8Pieces.{utf8}
use Rattle.html_profile.proofs.page.read_html.Goals as goal

pub built-requires-clause-decodes : goal.built-requires-clause-decodes
built-requires-clause-decodes c = utf8 c.in_ok-check_page.ensures.text.1

pub page_of-requires-clause-made : goal.page_of-requires-clause-made
page_of-requires-clause-made c = (_, _, c.in_ok-built.ensures.short, c.in_ok-built.ensures.tree)

pub returns-clause-only : goal.returns-clause-only
returns-clause-only c = λ other is. one_page _ _ other _ is (state_of c.in_ok-built.field-0, c.in_ok-built.ensures.tree, c.page_of.ensures)
