use Rattle.std.proofs.Common.{◌≡◌, ◌+◌, length, ap, ◌∙◌, arith, rules, length-append}
use Rattle.std.specs.Char.{encode_utf8}
use Rattle.std.specs.Result.{result_unwrap_or}
use Rattle.mug_text.specs.Text.{utf8_of}
use Rattle.mug_text.proofs.Texts.{utf8_of-bound}
use Rattle.mug_text.proofs.Decoding.{decoded_bytes, units_left}
use Rattle.mug_text.proofs.utf8.count_utf8.Goals as goal

one_more : (c : goal.After-len_utf8-count) → c.loop-decoded.count + c.len_utf8-count.result + length (utf8_of (units_left c.next.new.self)) ≡ length (utf8_of c.args.units.now)
one_more c =
    let bytes = decoded_bytes c.loop-decoded.decoded-iterator c.next.new.self c.in-Some.decoded (search rules) c.in-Some.ensures.steps in
    let size : c.len_utf8-count.result ≡ length (encode_utf8 (result_unwrap_or c.in-Some.decoded 0xFFFD)) = c.len_utf8-count.ensures.len ∙ ap (λ p. length (encode_utf8 p)) c.unwrap_or-c.ensures in
    omega (arith, ap length bytes, size, c.loop-decoded.invariant.counted, length-append (encode_utf8 (result_unwrap_or c.in-Some.decoded 0xFFFD)) (utf8_of (units_left c.next.new.self)))

pub overflow_add-count : goal.overflow_add-count
overflow_add-count c = omega (arith, one_more c, utf8_of-bound c.args.units.now, c.well_formed)

pub loop-decoded-preserved : goal.loop-decoded-preserved
loop-decoded-preserved c = record { can = search rules; finite = tt; counted = one_more c }
