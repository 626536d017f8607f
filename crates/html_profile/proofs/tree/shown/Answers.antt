use Rattle.html_profile.proofs.Utf8Pieces.{pointed_decodes}
use Rattle.html_profile.proofs.tree.shown.Goals as goal

pub shown_attribute-requires : goal.shown_attribute-requires
shown_attribute-requires c = pointed_decodes c.args.attributes.now c.loop-attribute.attribute-index c.attribute-item.result c.requires c.loop-attribute-test.true c.attribute-item.is
