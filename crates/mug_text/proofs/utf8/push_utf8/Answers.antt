use Rattle.std.proofs.Common.{◌++◌, sym, ap, ◌∙◌, rules}
use Rattle.std.specs.Char.{encode_utf8}
use Rattle.mug_text.proofs.Decoding.{decoded_bytes, one_more}
use Rattle.mug_text.proofs.utf8.push_utf8.Goals as goal

pub loop-decoded-preserved : goal.loop-decoded-preserved
loop-decoded-preserved c =
    let seen = c.loop-decoded.invariant.written in
    let bytes = decoded_bytes c.loop-decoded.decoded-iterator c.next.new.self c.in-Some.decoded (search rules) c.in-Some.ensures.steps in
    let piece = c.as_bytes.ensures.value ∙ c.encode_utf8.ensures.value ∙ ap encode_utf8 c.unwrap_or-c.ensures in
    record {
      can = search rules;
      finite = tt;
      written = one_more _ seen.0 _ _ seen.1 (c.in_ok-extend_from_slice.ensures.items ∙ ap (λ l. c.loop-decoded.out.items ++ l) piece) (ap (λ l. seen.0 ++ l) (sym bytes) ∙ seen.2);
    }
