use Rattle.js_ops.proofs.Images.{to_number-image, to_text-image, as_text-image, is_missing-image}
use Rattle.js_ops.proofs.laws.conversions_look_at_images.Goals as goal

pub returns : goal.returns
returns c = record { number = to_number-image; text = to_text-image; as_text = as_text-image; missing = is_missing-image }
