-- The plain images of what rows make.
use Rattle.std.specs.Prelude.{map}
use Rattle.js_value.specs.Image.{image}
use Rattle.js_host.specs.Images.{plain_call, plain_world}
use Rattle.js_operands.specs.Made.{Conversion, Made}
use Rattle.js_operands.specs.Made.Conversion.{Fails, Tries}

abbrev pub plain_conversion : Conversion → Conversion
plain_conversion (Fails v) = Fails (image v)
plain_conversion (Tries v f ms) = Tries (image v) (image f) ms

-- `g` gives the image of what a host holds. A row of an expression holds no value, and is its own
-- image.
module _ {H : Type 0} (g : H → H) where
  abbrev pub plain_made : Made H → Made H
  plain_made (Made.Gives v w h) = Made.Gives (image v) (plain_world w) (g h)
  plain_made (Made.Throws v w h) = Made.Throws (image v) (plain_world w) (g h)
  plain_made (Made.Becomes t w h) = Made.Becomes t (plain_world w) (g h)
  plain_made (Made.Converting k w h) = Made.Converting (plain_conversion k) (plain_world w) (g h)
  plain_made (Made.GoesOn r vs ts w h) = Made.GoesOn r (map image vs) ts (plain_world w) (g h)
  plain_made (Made.Converts r before k behind w h) =
      Made.Converts r (map image before) (plain_conversion k) (map image behind) (plain_world w)
      (g h)
  plain_made (Made.Calls f q w h) = Made.Calls (image f) (plain_call q) (plain_world w) (g h)
