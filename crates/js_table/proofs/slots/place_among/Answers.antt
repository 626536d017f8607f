use Rattle.std.proofs.Common.{sym, ◌∙◌}
use Rattle.js_table.proofs.Places.{no_place-more, place_of-here}
use Rattle.js_table.proofs.slots.place_among.Goals as goal

pub returns-then-has_name : goal.returns-then-has_name
returns-then-has_name c = sym (place_of-here _ _ _ _ c.loop-i-test.true c.index-slots-i.is c.loop-i.invariant (sym c.has_name.ensures ∙ c.if-has_name.true))

pub loop-i-preserved : goal.loop-i-preserved
loop-i-preserved c = no_place-more _ _ _ _ c.loop-i-test.true c.index-slots-i.is c.loop-i.invariant (sym c.has_name.ensures ∙ c.if-has_name.false)
