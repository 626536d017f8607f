use Rattle.std.proofs.Common.{◌≡◌, ℕ, ◌<◌, ◌≤◌, ◌++◌, Some, codes, ap, sym, subst, ◌∙◌, rules, arith}
use Rattle.std.specs.List.{flat_map}
use Rattle.std.specs.Iterator.Adapters.{copied_steps}
use Rattle.std.specs.Char.{IsScalar}
use Rattle.std.specs.Char.Utf16.{decode_utf16_steps}
use Rattle.std.proofs.iter.Yields.{fronts}
use Rattle.std.proofs.lemmas.Bool.Decides.{nat_tests}
use Rattle.mug_text.specs.Text.{four_digits, shown_point}
use Rattle.mug_text.proofs.Decoding.{decoded_char, decoded_lone, one_more}
use Rattle.mug_text.proofs.shown.push_text.Goals as goal

shown_surrogate : (u : ℕ) → 0xD800 ≤ u → u < 0xE000 → shown_point u ≡ codes "\\u" ++ four_digits u
shown_surrogate u from below = grind (arith, nat_tests)

pub loop-decoded-preserved-in-Continue-1 : goal.loop-decoded-preserved-in-Continue-1
loop-decoded-preserved-in-Continue-1 c =
    let seen = c.loop-decoded.invariant.printed in
    let is : IsScalar c.in-Ok.c = search rules in
    let step = subst (λ r. decode_utf16_steps (copied_steps fronts) c.loop-decoded.decoded-iterator (Some r) c.next.new.self) c.in-Ok.is c.in-Some.ensures.steps in
    let point = decoded_char c.loop-decoded.decoded-iterator c.next.new.self c.in-Ok.c is step in
    record {
      can = search rules;
      finite = tt;
      printed = one_more _ seen.0 _ _ seen.1 c.in_ok-push_char-in-Ok.ensures.ok (ap (λ ps. seen.0 ++ flat_map shown_point ps) (sym point) ∙ seen.2);
    }

pub loop-decoded-preserved : goal.loop-decoded-preserved
loop-decoded-preserved c =
    let seen = c.loop-decoded.invariant.printed in
    let step = subst (λ r. decode_utf16_steps (copied_steps fronts) c.loop-decoded.decoded-iterator (Some r) c.next.new.self) c.in-Err.is c.in-Some.ensures.steps in
    let lone = decoded_lone c.loop-decoded.decoded-iterator c.next.new.self c.in-Err.lone step in
    let piece = ap (λ u. codes "\\u" ++ four_digits u) c.unpaired_surrogate.ensures ∙ sym (shown_surrogate _ lone.1 lone.2) in
    record {
      can = search rules;
      finite = tt;
      printed = one_more _ seen.0 _ _ seen.1 (c.in_ok-push_escape-in-Err.ensures.ok ∙ ap (λ l. c.loop-decoded.out.items ++ l) piece) (ap (λ ps. seen.0 ++ flat_map shown_point ps) (sym lone.0) ∙ seen.2);
    }
