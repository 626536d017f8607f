-- That operations commute with the plain image, where a host's own properties do.
use Rattle.std.specs.Prelude.{ℕ, List, Option, ◌≡◌}
use Rattle.std.specs.Option.{option_map}
use Rattle.js_value.specs.Image.{image}
use Rattle.js_value.specs.declared.value.Value.{Value}
use Rattle.js_heap.specs.World.{World}
use Rattle.js_heap.specs.declared.class.Code.{Code}
use Rattle.js_heap.specs.declared.class.ScopeId.{ScopeId}
use Rattle.js_host.specs.Images.{plain_world}
use Rattle.js_reference.specs.Callables as callables
use Rattle.js_reference.specs.Deletes as deletes
use Rattle.js_reference.specs.Errors as errors
use Rattle.js_reference.specs.declared.error.ErrorName.{ErrorName}
use Rattle.js_reference.specs.Functions as functions
use Rattle.js_reference.specs.Keys as keys
use Rattle.js_reference.specs.Names as names
use Rattle.js_reference.specs.Own.{OwnProperties}
use Rattle.js_reference.specs.Properties as properties
use Rattle.js_reference.specs.Puts as puts
use Rattle.js_plain.specs.Images.{plain_answer}

-- what a value is, and what it has
pub record ValuesCommute : Type 0 where
  pub is_callable : (w : World) (v : Value)
      → callables.is_callable (plain_world w) (image v) ≡ callables.is_callable w v
  pub native_of : (w : World) (v : Value)
      → callables.native_of (plain_world w) (image v) ≡ callables.native_of w v
  pub is_date : (w : World) (v : Value)
      → callables.is_date (plain_world w) (image v) ≡ callables.is_date w v
  pub keys_in : (w : World) (v : Value)
      → keys.keys_in (plain_world w) (image v) ≡ keys.keys_in w v
  pub with_function : (w : World) (code : Code)
      → functions.with_function (plain_world w) code ≡ plain_world
      (functions.with_function w code)

-- O: a host's own properties. g: the image of what a host holds.
pub record OperationsCommute {H : Type 0} (g : H → H) (O : OwnProperties H) : Type 0 where
  pub thrown : (e : ErrorName) (w : World) (h : H)
      → errors.thrown e (plain_world w) (g h) ≡ plain_answer g (errors.thrown e w h)
  pub property : (w : World) (h : H) (v : Value) (x : List ℕ)
      → properties.property O (plain_world w) (g h) (image v) x
      ≡ option_map image (properties.property O w h v x)
  pub read : (w : World) (h : H) (v : Value) (x : List ℕ)
      → properties.read O (plain_world w) (g h) (image v) x
      ≡ plain_answer g (properties.read O w h v x)
  pub write : (w : World) (h : H) (u : Value) (x : List ℕ) (v : Value)
      → puts.write O (plain_world w) (g h) (image u) x (image v)
      ≡ plain_answer g (puts.write O w h u x v)
  pub delete : (w : World) (h : H) (v : Value) (x : List ℕ)
      → deletes.delete O (plain_world w) (g h) (image v) x
      ≡ plain_answer g (deletes.delete O w h v x)
  pub name_value : (w : World) (h : H) (s : Option ScopeId) (x : List ℕ)
      → names.name_value O (plain_world w) (g h) s x
      ≡ option_map image (names.name_value O w h s x)
  pub read_name : (w : World) (h : H) (s : Option ScopeId) (x : List ℕ)
      → names.read_name O (plain_world w) (g h) s x ≡ plain_answer g (names.read_name O w h s x)
  pub write_name : (w : World) (h : H) (s : Option ScopeId) (x : List ℕ) (v : Value)
      → names.write_name O (plain_world w) (g h) s x (image v)
      ≡ plain_answer g (names.write_name O w h s x v)
