use Rattle.std.proofs.Common.{sym, ◌∙◌}
use Rattle.dom_tree.proofs.Named.{value_given}
use Rattle.dom_tree.proofs.attributes.place_of.Goals as goal

pub returns-then-same_text : goal.returns-then-same_text
returns-then-same_text c = λ value. (
  c.loop-index-test.true,
  value_given c.args.name.now value c.args.items.now c.loop-index.index c.index-items-index.result c.loop-index-test.true c.index-items-index.is (c.loop-index.invariant value) (sym c.same_text.ensures ∙ c.if-same_text.true),
)
