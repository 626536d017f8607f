use Rattle.html_profile.proofs.Tags.{start_tag_is}
use Rattle.std.proofs.Common.{◌≡◌, rules, sym, ap, ◌∙◌}
use Rattle.html_profile.specs.Marks.{lower}
use Rattle.html_profile.specs.Pieces.{raw_of, source, read_source, behind_content}
use Rattle.html_profile.proofs.piece.start_tag.Goals as goal

pub returns-clause-is : goal.returns-clause-is
returns-clause-is c =
    let raw = c.raw_of-raw.ensures ∙ ap raw_of c.as_slice.ensures in
    let same : c.from_vec.result ≡ c.split_source.result.0.now = search rules in
    let words = c.from_vec-2.ensures ∙ c.in_ok-text.ensures ∙ ap (λ r. read_source r c.split_source.result.0.now) raw ∙ ap (read_source (raw_of c.in_ok-name.name)) (sym same) in
    start_tag_is c.args.text.now _ _ _ _ _ _ _ (rw c.in-Some.is at c.in_ok-attributes.ensures.is) c.split.ensures.from (c.in_ok-name.ensures ∙ ap lower c.split.ensures.before)
    (same ∙ c.split_source.ensures.source ∙ ap (λ r. source r c.in-Some.rest.now) raw) words
    (c.split_source.ensures.behind ∙ ap (λ r. behind_content r c.in-Some.rest.now) raw)
