use Rattle.std.proofs.Common.{All, [], sym, subst}
use Rattle.html_profile.specs.Decoding.{DecodingAttribute}
use Rattle.html_profile.proofs.Utf8Pieces.{firsts_decode}
use Rattle.html_profile.proofs.tree.element_of.Goals as goal

pub shown-requires : goal.shown-requires
shown-requires c = subst (All DecodingAttribute) (sym c.requires.firsts) (firsts_decode [] c.args.tag.now.attributes c.requires.decodes.attributes)
