use Rattle.std.proofs.Common.{◌<◌, ◌≤◌, ◌^◌, Some, ap, arith, sym, ◌∙◌}
use Rattle.js_table.specs.Properties.{with_property}
use Rattle.js_heap.specs.Elements.{raised}
use Rattle.js_heap.proofs.Spelled.{spelled-index, spelled-name}
use Rattle.js_heap.proofs.arrays.put_spelled.Goals as goal

pub returns-then-index-lt-INDEX_END-clause-ok : goal.returns-then-index-lt-INDEX_END-clause-ok
returns-then-index-lt-INDEX_END-clause-ok c =
    let fits : c.args.index < 2 ^ 64 = omega (arith, c.ranges.index.fits) in
    let below : c.args.index < 0xFFFF_FFFF = c.if-index-lt-INDEX_END.true in
    let name = c.as_slice.ensures ∙ c.of.ensures in
    c.raise.ensures
    ∙ ap (raised (Some c.args.index)) (c.in_ok-put_units.ensures.ok ∙ ap (λ x. with_property x c.args.value c.args.listed c.args.properties.now) name)
    ∙ sym (spelled-index c.args.index c.args.value c.args.listed c.args.properties.now fits below)

pub returns-else-index-lt-INDEX_END-clause-ok : goal.returns-else-index-lt-INDEX_END-clause-ok
returns-else-index-lt-INDEX_END-clause-ok c =
    let fits : c.args.index < 2 ^ 64 = omega (arith, c.ranges.index.fits) in
    let above : 0xFFFF_FFFF ≤ c.args.index = c.if-index-lt-INDEX_END.false in
    let name = c.as_slice.ensures ∙ c.of.ensures in
    c.in_ok-put_units.ensures.ok
    ∙ ap (λ x. with_property x c.args.value c.args.listed c.args.properties.now) name
    ∙ sym (spelled-name c.args.index c.args.value c.args.listed c.args.properties.now fits above)
