use Rattle.std.proofs.Common.{IsUtf8, sym, subst}
use Rattle.html_profile.proofs.Utf8Pieces.{pointed_decodes}
use Rattle.html_profile.proofs.tree.push_names.Goals as goal

pub text_of-requires : goal.text_of-requires
text_of-requires c = subst IsUtf8 (sym c.as_slice.ensures) (pointed_decodes c.args.attributes.now c.loop-attribute.attribute-index c.attribute-item.result c.requires c.loop-attribute-test.true c.attribute-item.is).0
