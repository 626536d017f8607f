-- That what a heap's calls mean commutes with the plain image.
use Rattle.std.specs.Prelude.{ℕ, List, Bool, Option, ◌≡◌}
use Rattle.std.specs.Option.{option_map}
use Rattle.js_value.specs.Image.{image}
use Rattle.js_value.specs.declared.value.ObjId.{ObjId}
use Rattle.js_value.specs.declared.value.Value.{Value}
use Rattle.js_heap.specs.Objects as objects
use Rattle.js_heap.specs.Puts as puts
use Rattle.js_heap.specs.Scopes as scopes
use Rattle.js_heap.specs.Keys as keys
use Rattle.js_heap.specs.World.{World}
use Rattle.js_heap.specs.declared.class.Class.{Class}
use Rattle.js_heap.specs.declared.class.ScopeId.{ScopeId}
use Rattle.js_host.specs.Images.{plain_class, plain_world}

-- objects and their properties
pub record ObjectsCommute : Type 0 where
  pub with_object : (w : World) (c : Class) (p : Option ObjId)
      → objects.with_object (plain_world w) (plain_class c) p
      ≡ plain_world (objects.with_object w c p)
  pub get_own : (w : World) (o : ObjId) (x : List ℕ)
      → objects.get_own (plain_world w) o x ≡ option_map image (objects.get_own w o x)
  pub get : (w : World) (o : ObjId) (x : List ℕ)
      → objects.get (plain_world w) o x ≡ option_map image (objects.get w o x)
  pub put : (w : World) (o : ObjId) (x : List ℕ) (v : Value) (listed : Bool)
      → puts.put (plain_world w) o x (image v) listed ≡ plain_world (puts.put w o x v listed)
  pub refuses : (w : World) (o : ObjId) (x : List ℕ) (v : Value)
      → puts.refuses_at (plain_world w).objects o.number x (image v)
      ≡ puts.refuses_at w.objects o.number x v
  pub set_length : (w : World) (o : ObjId) (n : ℕ)
      → puts.set_length (plain_world w) o n ≡ plain_world (puts.set_length w o n)
  pub remove : (w : World) (o : ObjId) (x : List ℕ)
      → objects.remove (plain_world w) o x ≡ plain_world (objects.remove w o x)
  pub gives_up : (w : World) (o : ObjId) (x : List ℕ)
      → objects.gives_up_at (plain_world w).objects o.number x
      ≡ objects.gives_up_at w.objects o.number x
  pub keys : (w : World) (o : ObjId) → keys.keys (plain_world w) o ≡ keys.keys w o

-- scopes and their names
pub record ScopesCommute : Type 0 where
  pub with_scope : (w : World) (p : Option ScopeId)
      → scopes.with_scope (plain_world w) p ≡ plain_world (scopes.with_scope w p)
  pub declare : (w : World) (s : ScopeId) (x : List ℕ) (v : Value)
      → scopes.declare (plain_world w) s x (image v) ≡ plain_world (scopes.declare w s x v)
  pub look_up : (w : World) (s : ScopeId) (x : List ℕ)
      → scopes.look_up (plain_world w) s x ≡ option_map image (scopes.look_up w s x)
  pub assign : (w : World) (s : ScopeId) (x : List ℕ) (v : Value)
      → scopes.assign (plain_world w) s x (image v) ≡ option_map plain_world
      (scopes.assign w s x v)
