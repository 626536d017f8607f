-- What is there: each object and each scope that a world names stands in it.
use Rattle.std.specs.Prelude.{◌≡◌, ℕ, true, List, [], ◌∷◌, Option, Some, None, codes, is_some, length}
use Rattle.std.specs.Option.{option_map}
use Rattle.js_value.specs.declared.value.Callee.TheVariants as callee
use Rattle.js_value.specs.declared.value.Value.{Value}
use Rattle.js_value.specs.declared.value.Value.TheVariants as value
use Rattle.js_heap.specs.Chains.{IsBelow, LeadsBack}
use Rattle.js_heap.specs.Elements.{length_in}
use Rattle.js_heap.specs.Objects.{prototype_number}
use Rattle.js_heap.specs.Scopes.{parent_number, scope_number}
use Rattle.js_heap.specs.World.{Binding, Object, Property, Scope, World}
use Rattle.js_heap.specs.declared.class.Class.{Class}
use Rattle.js_heap.specs.declared.class.Class.TheVariants as class

-- the fact holds of each
abbrev pub Each : {X : Type 0} → (X → Type 0) → List X → Type 0
Each P [] = Unit {0}
Each P (x ∷ xs) = P x × Each P xs

-- the number of the object that a value names, also within a wrap
abbrev pub object_named : Value → Option ℕ
object_named (value.Ref o) = Some o.number
object_named (value.Wrap f (callee.Ref o)) = Some o.number
object_named v = None

-- there are so many objects that what the value names is one of them
abbrev pub IsAmong : ℕ → Value → Type 0
IsAmong count v = IsBelow count (object_named v)

-- there are so many objects and scopes that what the class names is among them
abbrev pub ClassIsAmong : ℕ → ℕ → Class → Type 0
ClassIsAmong objects scopes (class.Function f) = IsBelow scopes (option_map scope_number f.scope)
ClassIsAmong objects scopes (class.Bound b) =
    IsAmong objects b.f × IsAmong objects b.this × Each (IsAmong objects) b.args
ClassIsAmong objects scopes c = Unit {0}

-- the first property is `length`, a whole number from 0 to 2^32 - 1
abbrev pub BeginsWithLength : List Property → Type 0
BeginsWithLength [] = ⊥
BeginsWithLength (p ∷ ps) = (p.name ≡ codes "length") × (is_some (length_in p.value) ≡ true)

-- an array has a `length` (ECMA-262 edition 5.1, 15.4.5.2)
abbrev pub HasLength : Class → List Property → Type 0
HasLength class.Array ps = BeginsWithLength ps
HasLength c ps = Unit {0}

abbrev pub PropertyIsAmong : ℕ → Property → Type 0
PropertyIsAmong count p = IsAmong count p.value

abbrev pub BindingIsAmong : ℕ → Binding → Type 0
BindingIsAmong count b = IsAmong count b.value

-- an object that names only what is among so many objects and scopes
pub record ObjectIsAmong (objects scopes : ℕ) (o : Object) : Type 0 where
  pub named : ClassIsAmong objects scopes o.class
  pub values : Each (PropertyIsAmong objects) o.properties
  pub begins : HasLength o.class o.properties

-- a scope that names only what is among so many objects
abbrev pub ScopeIsAmong : ℕ → Scope → Type 0
ScopeIsAmong objects s = Each (BindingIsAmong objects) s.names

-- Each prototype, and each scope around a scope, stands before what has it; values and classes name
-- only what is there; each array has a `length`.
pub record IsClosed (w : World) : Type 0 where
  pub prototypes : LeadsBack prototype_number w.objects
  pub parents : LeadsBack parent_number w.scopes
  pub each_object : Each (ObjectIsAmong (length w.objects) (length w.scopes)) w.objects
  pub each_scope : Each (ScopeIsAmong (length w.objects)) w.scopes

-- what the value names is there
abbrev pub IsThere : World → Value → Type 0
IsThere w v = IsAmong (length w.objects) v

-- what the class names is there
abbrev pub ClassIsThere : World → Class → Type 0
ClassIsThere w c = ClassIsAmong (length w.objects) (length w.scopes) c
