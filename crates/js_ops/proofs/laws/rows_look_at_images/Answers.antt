use Rattle.js_ops.proofs.Images.{add-image, arith-image, bits-image, less-image, equal_primitives-image, equal-image}
use Rattle.js_ops.proofs.laws.rows_look_at_images.Goals as goal

pub returns : goal.returns
returns c = record { add = add-image; arith = arith-image; bits = bits-image; less = less-image; equal_primitives = equal_primitives-image; equal = equal-image }
