use Rattle.std.proofs.Common.{◌≡◌, ◌++◌, sym, ap, ◌∙◌}
use Rattle.std.specs.Char.{encode_utf8}
use Rattle.html_profile.proofs.Resolving.{resolved_step}
use Rattle.html_profile.proofs.plain.resolved.Goals as goal

pub loop-byte-preserved-in-Some-reference : goal.loop-byte-preserved-in-Some-reference
loop-byte-preserved-in-Some-reference c =
    let step = resolved_step c.args.bytes.now c.loop-byte.out.items c.loop-byte.rest.now c.in-Some-reference.found c.in-Some-reference.len c.loop-byte.invariant (sym c.in-Some-reference.ensures.is) c.in-Some-reference.ensures.within.0 in
    let more : c.extend_from_slice.new.self.items ≡ c.loop-byte.out.items ++ encode_utf8 c.in-Some-reference.found =
    c.in_ok-extend_from_slice-in-Some-reference.ensures.items ∙ ap (λ l. c.loop-byte.out.items ++ l) (c.as_bytes.ensures.value ∙ c.encode_utf8.ensures.value) in
    rw more step
