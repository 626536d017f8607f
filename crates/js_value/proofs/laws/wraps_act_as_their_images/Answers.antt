use Rattle.js_value.proofs.Images.{image-image, is_primitive-image, to_boolean-image, same-image_left, same-image_right}
use Rattle.js_value.proofs.laws.wraps_act_as_their_images.Goals as goal

pub returns : goal.returns
returns c = record { once = image-image; primitive = is_primitive-image; truth = to_boolean-image; same_left = same-image_left; same_right = same-image_right }
