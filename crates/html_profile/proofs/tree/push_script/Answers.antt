use Rattle.std.proofs.Common.{IfSome, IsUtf8, codes, sym, ap, subst, ◌∙◌}
use Rattle.std.specs.Option.{option_map}
use Rattle.html_profile.specs.Names.{value_named}
use Rattle.html_profile.proofs.Utf8Pieces.{value_named_decodes}
use Rattle.html_profile.proofs.tree.push_script.Goals as goal

pub text_of-requires : goal.text_of-requires
text_of-requires c =
    let all = value_named_decodes (codes "src") c.args.tag.now.attributes c.requires.attributes in
    let is = ap (option_map (λ v. v.now)) (sym c.in-Some.is) ∙ c.value_named.ensures ∙ ap (value_named (codes "src")) c.as_slice-attributes.ensures in
    subst (λ o. IfSome o IsUtf8) (sym is) all
