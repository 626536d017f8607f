use Rattle.std.proofs.Common.{◌+◌, sym, ◌∙◌, ap, arith, Some}
use Rattle.std.specs.Prelude.{codes}
use Rattle.std.proofs.lemmas.List.{take_rest}
use Rattle.js_tokens.specs.Units.{opens}
use Rattle.std.specs.Option.{option_map}
use Rattle.js_tokens.proofs.Comments.{star_later}
use Rattle.js_tokens.proofs.gaps.star_slash_at.Goals as goal

pub units-preserved : goal.units-preserved
units-preserved c =
    let step = star_later c.args.units.now c.units.at c.units-test.true (ap (λ z. opens z (codes "*/")) (sym (take_rest c.args.units.now c.units.at)) ∙ sym c.opens.ensures.is ∙ c.if-opens.false) in
    record {
      within = omega (arith, c.units-test.true);
      some = λ n h. c.units.invariant.some (n + 1) (step ∙ ap (option_map (λ m. m + 1)) h) ∙ ap Some (omega arith);
      none = λ h. c.units.invariant.none (step ∙ ap (option_map (λ m. m + 1)) h);
    }
