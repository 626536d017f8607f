use Rattle.std.proofs.Common.{◌≡◌, IsUtf8, drop, sym, ap, subst, ◌∙◌}
use Rattle.std.proofs.lemmas.Option.{MatchOption-at_some}
use Rattle.html_profile.specs.Page.{without_prelude}
use Rattle.html_profile.proofs.Utf8Page.{page_utf8}
use Rattle.html_profile.proofs.page.built.Goals as goal

pub build-requires-clause-decodes : goal.build-requires-clause-decodes
build-requires-clause-decodes c =
    let page = MatchOption-at_some _ _ c.in-Some.page c.in-Some.is c.in_ok-page.ensures.is in
    let is = c.split_at.ensures.back ∙ ap (drop c.mark_len-mark.result) (c.as_slice.ensures.value ∙ page) ∙ ap (λ n. drop n (without_prelude c.args.bytes.now)) c.mark_len-mark.ensures.is in
    subst IsUtf8 (sym is) (page_utf8 c.args.bytes.now c.requires.decodes)

pub build-requires-in-None-clause-decodes : goal.build-requires-in-None-clause-decodes
build-requires-in-None-clause-decodes c =
    let same : without_prelude c.args.bytes.now ≡ c.args.bytes.now = rw c.in-None.is at c.in_ok-page.ensures.is in
    let is = c.split_at-in-None.ensures.back ∙ ap (drop c.mark_len-mark.result) (sym same) ∙ ap (λ n. drop n (without_prelude c.args.bytes.now)) c.mark_len-mark.ensures.is in
    subst IsUtf8 (sym is) (page_utf8 c.args.bytes.now c.requires.decodes)
