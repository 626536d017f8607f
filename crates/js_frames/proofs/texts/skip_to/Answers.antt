use Rattle.std.proofs.Common.{◌≡◌, refl, ◌+◌, ◌-◌, ap, arith, length, ◌∙◌}
use Rattle.js_frames.specs.Arenas.{arena_of}
use Rattle.js_frames.proofs.Arenas.{arena-none, skipped-more, skipped-none}
use Rattle.js_frames.proofs.texts.skip_to.Goals as goal

pub loop-number-init : goal.loop-number-init
loop-number-init c =
    let n : c.len-number.result ≡ length c.args.scripts.now.items = c.len-number.ensures
    ∙ c.args.scripts.now.ok.0 in
    record {
      least = omega (arith, n);
      skipped = skipped-none c.args.scripts.now.items (c.len-number.result - length
          c.args.scripts.now.items) (omega (arith, n));
      same = λ x. refl;
    }

pub loop-number-preserved : goal.loop-number-preserved
loop-number-preserved c = record {
  least = omega (arith, c.loop-number.invariant.least);
  skipped =
      c.push_reserved.ensures.items
      ∙ skipped-more c.args.scripts.now.items _ (c.loop-number._number - length
      c.args.scripts.now.items)
      (c.loop-number._number + 1 - length c.args.scripts.now.items)
      (omega (arith, c.loop-number.invariant.least)) (c.reserve.ensures.items
      ∙ c.loop-number.invariant.skipped);
  same = λ x.
      ap (λ ts. arena_of ts x) c.push_reserved.ensures.items
      ∙ (arena-none c.reserve.new.self.items x ∙ (ap (λ ts. arena_of ts x)
      c.reserve.ensures.items ∙ c.loop-number.invariant.same x));
}
