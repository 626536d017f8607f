use Rattle.std.proofs.Common.{sym, ap, ◌∙◌}
use Rattle.html_profile.specs.Attributes.{seen_rest, seen_attribute}
use Rattle.html_profile.proofs.Tags.{attributes_end}
use Rattle.html_profile.proofs.tag.attributes.Goals as goal

pub returns-in-None-clause-is : goal.returns-in-None-clause-is
returns-in-None-clause-is c =
    rw c.of.ensures
    (attributes_end c.args.text.now c.loop-attributes.rest.now _ c.loop-attributes.attributes.items (seen_rest c.closing.result) c.loop-attributes.invariant.on c.split.ensures.from
    (sym c.in_ok-attribute.ensures.is ∙ ap seen_attribute c.in-None.is) c.closing.ensures.is)
