use Rattle.html_profile.proofs.Utf8Pieces.{pointed_decodes}
use Rattle.html_profile.proofs.tree.push_handlers.Goals as goal

pub push_handler-requires : goal.push_handler-requires
push_handler-requires c = pointed_decodes c.args.attributes.now c.loop-attribute.attribute-index c.attribute-item.result c.requires c.loop-attribute-test.true c.attribute-item.is
