-- That operators and literals commute with the plain image, where a host's own properties do.
use Rattle.std.specs.Prelude.{ℕ, List, Bool, Option, ◌≡◌, map}
use Rattle.std.specs.Option.{option_map}
use Rattle.js_value.specs.Image.{image}
use Rattle.js_value.specs.declared.value.Value.{Value}
use Rattle.js_heap.specs.World.{World}
use Rattle.js_host.specs.Images.{plain_world}
use Rattle.js_operations.specs.Literals as literals
use Rattle.js_operations.specs.Operations as operations
use Rattle.js_operations.specs.Unary as unary
use Rattle.js_operations.specs.declared.operation.Operation.{Operation}
use Rattle.js_reference.specs.Own.{OwnProperties}
use Rattle.js_tree.specs.declared.production.UnaryOperator.{UnaryOperator}
use Rattle.js_plain.specs.Images.{plain_answer}

-- O: a host's own properties. g: the image of what a host holds.
pub record OperatorsCommute {H : Type 0} (g : H → H) (O : OwnProperties H) : Type 0 where
  pub wants : (o : Operation) (a b : Value) (i : ℕ)
      → operations.operation_wants o (image a) (image b) i ≡ operations.operation_wants o a b i
  pub operate : (w : World) (h : H) (o : Operation) (a b : Value)
      → operations.operate O (plain_world w) (g h) o (image a) (image b)
      ≡ plain_answer g (operations.operate O w h o a b)
  pub unary_operate : (w : World) (h : H) (o : UnaryOperator) (v : Value)
      → unary.unary_operate (plain_world w) (g h) o (image v)
      ≡ plain_answer g (unary.unary_operate w h o v)
  pub type_of : (w : World) (o : Option Value)
      → unary.type_of_option (plain_world w) (option_map image o)
      ≡ image (unary.type_of_option w o)
  pub array_literal : (w : World) (h : H) (es : List Bool) (vs : List Value)
      → literals.array_literal (plain_world w) (g h) es (map image vs)
      ≡ plain_answer g (literals.array_literal w h es vs)
  pub object_literal : (w : World) (h : H) (ks : List (List ℕ)) (vs : List Value)
      → literals.object_literal (plain_world w) (g h) ks (map image vs)
      ≡ plain_answer g (literals.object_literal w h ks vs)
