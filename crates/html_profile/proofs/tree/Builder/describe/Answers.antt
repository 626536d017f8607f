use Rattle.std.proofs.Common.{All, [], map, sym, ap, subst, ◌∙◌}
use Rattle.html_profile.specs.Names.{firsts}
use Rattle.html_profile.specs.Decoding.{DecodingAttribute}
use Rattle.html_profile.proofs.Utf8Pieces.{firsts_decode}
use Rattle.html_profile.proofs.tree.Builder.describe.Goals as goal

pub push_handlers-requires : goal.push_handlers-requires
push_handlers-requires c =
    subst (All DecodingAttribute) (sym (ap (map (λ a. a.now)) c.deref-2.ensures.value ∙ c.in_ok-kept.ensures ∙ ap (firsts []) c.as_slice.ensures)) (firsts_decode [] c.args.tag.now.attributes c.requires.attributes)

pub push_names-requires : goal.push_names-requires
push_names-requires c =
    subst (All DecodingAttribute) (sym (ap (map (λ a. a.now)) c.deref-3.ensures.value ∙ c.in_ok-kept.ensures ∙ ap (firsts []) c.as_slice.ensures)) (firsts_decode [] c.args.tag.now.attributes c.requires.attributes)
