use Rattle.std.proofs.Common.{IsUtf8, drop, sym, ap, subst, ◌∙◌, length}
use Rattle.html_profile.specs.FirstPlace.{mark_len}
use Rattle.html_profile.specs.Building.{state_of}
use Rattle.html_profile.specs.Page.{IsTree}
use Rattle.html_profile.proofs.Utf8Pieces.{utf8}
use Rattle.html_profile.proofs.Utf8Page.{behind_mark}
use Rattle.html_profile.proofs.OnePage.{one_page}
use Rattle.html_profile.proofs.page.read_whole.Goals as goal

tree_there : (c : goal.After-page_of) → IsTree (length c.args.bytes.now) (drop (mark_len c.args.bytes.now) c.args.bytes.now) (state_of c.in_ok-build.field-0)
tree_there c = subst (λ l. IsTree (length c.args.bytes.now) l (state_of c.in_ok-build.field-0)) (c.split_at.ensures.back ∙ ap (λ n. drop n c.args.bytes.now) c.mark_len.ensures.is) c.in_ok-build.ensures.tree

pub build-requires-clause-decodes : goal.build-requires-clause-decodes
build-requires-clause-decodes c = subst IsUtf8 (sym (c.split_at.ensures.back ∙ ap (λ n. drop n c.args.bytes.now) c.mark_len.ensures.is)) (behind_mark c.args.bytes.now (utf8 c.in_ok-check_page.ensures.text.1))

pub returns-clause-page : goal.returns-clause-page
returns-clause-page c = (state_of c.in_ok-build.field-0, tree_there c, c.page_of.ensures)

pub returns-clause-only : goal.returns-clause-only
returns-clause-only c = λ other is. one_page _ _ other _ is (state_of c.in_ok-build.field-0, tree_there c, c.page_of.ensures)
