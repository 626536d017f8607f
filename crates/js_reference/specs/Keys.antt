-- What for-in goes through (ECMA-262 edition 5.1, 12.6.4).
use Rattle.std.specs.Prelude.{ℕ, zero, suc, List, [], ◌∷◌, ◌++◌, decimal, length}
use Rattle.js_value.specs.Image.{image}
use Rattle.js_value.specs.declared.value.Value.{Value}
use Rattle.js_value.specs.declared.value.Value.TheVariants as value
use Rattle.js_heap.specs.Keys.{keys}
use Rattle.js_heap.specs.World.{World}
use Rattle.js_heap.specs.declared.root.Root.TheVariants as root
use Rattle.js_reference.specs.Errors.{root_object}

-- the indices from a number on, so many of them
abbrev pub indices_from : ℕ → ℕ → List (List ℕ)
indices_from i zero = []
indices_from i (suc n) = decimal i ∷ indices_from (suc i) n

-- a text's indices, and then the names of the prototype of texts
abbrev pub text_keys : World → List ℕ → List (List ℕ)
text_keys w t = indices_from 0 (length t) ++ keys w (root_object root.StringPrototype)

-- undefined and null have no names
abbrev pub image_keys : World → Value → List (List ℕ)
image_keys w (value.Ref o) = keys w o
image_keys w (value.Native n) = keys w (root_object root.FunctionPrototype)
image_keys w (value.Text t) = text_keys w t
image_keys w (value.Num n) = keys w (root_object root.NumberPrototype)
image_keys w (value.Bool b) = keys w (root_object root.BooleanPrototype)
image_keys w v = []

-- the names that for-in goes through in a value
abbrev pub keys_in : World → Value → List (List ℕ)
keys_in w v = image_keys w (image v)
