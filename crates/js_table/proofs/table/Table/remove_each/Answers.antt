use Rattle.std.proofs.Common.{◌<◌, ◌≤◌, ap, arith, decimal, sym, ◌∙◌}
use Rattle.js_table.specs.Properties.{without}
use Rattle.js_table.proofs.ElementLemmas.{without_elements-more, without_elements-none}
use Rattle.js_table.proofs.table.Table.remove_each.Goals as goal

pub loop-index-init : goal.loop-index-init
loop-index-init c = sym (without_elements-none c.args.low c.args.low c.args.self.now (omega arith))

pub loop-index-preserved : goal.loop-index-preserved
loop-index-preserved c =
    let above : c.args.low ≤ c.loop-index.index = omega arith in
    let below : c.loop-index.index < 0xFFFF_FFFF = omega (arith, c.ranges.high.fits, c.loop-index-test.true) in
    c.remove.ensures.without
    ∙ ap (λ x. without x c.loop-index.self) (c.as_slice.ensures ∙ c.of.ensures)
    ∙ ap (without (decimal c.loop-index.index)) c.loop-index.invariant
    ∙ without_elements-more c.args.low c.loop-index.index c.args.self.now above below
