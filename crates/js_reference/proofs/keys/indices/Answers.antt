use Rattle.std.proofs.Common.{ap, arith, ◌++◌, ◌∷◌, [], sym, ◌∙◌}
use Rattle.js_reference.specs.Keys.{indices_from}
use Rattle.js_reference.proofs.Listed.{indices_snoc}
use Rattle.js_reference.proofs.keys.indices.Goals as goal

pub loop-index-preserved : goal.loop-index-preserved
loop-index-preserved c =
    let i = c.loop-index.index in
    record {
      within = omega (arith, c.loop-index-test.true);
      so_far =
          c.in_ok-push.ensures.ok ∙ ap (λ ns. ns ++ c.in_ok-from_units.field-0 ∷ []) c.loop-index.invariant.so_far
          ∙ ap (λ t. indices_from 0 i ++ t ∷ []) (c.in_ok-from_units.ensures ∙ c.as_slice.ensures ∙ c.of.ensures)
          ∙ sym (indices_snoc i);
    }
