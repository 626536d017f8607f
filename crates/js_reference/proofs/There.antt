-- What is there stays there, and all that a closed world names is there.
use Rattle.std.proofs.Common.{◌≡◌, ◌↔◌, ◌<◌, ◌≤◌, ◌+◌, ℕ, zero, suc, List, [], ◌∷◌, ◌++◌, Option, Some, None, length, map, slice_get, refl, ap, sym, ◌∙◌, subst, arith}
use Rattle.std.proofs.lemmas.List.{length-append, length-map}
use Rattle.std.proofs.lemmas.Option.{slice_get_within}
use Rattle.js_value.specs.declared.value.Value.{Value}
use Rattle.js_value.specs.declared.value.Value.TheVariants as value
use Rattle.js_heap.specs.Chains.{IsBelow}
use Rattle.js_heap.specs.Closed.{ClassIsAmong, Each, IsAmong, IsClosed, IsThere, ObjectIsAmong, object_named}
use Rattle.js_heap.specs.Objects.{prototype_number}
use Rattle.js_heap.specs.Roots.{root_number}
use Rattle.js_heap.specs.World.{World, classes}
use Rattle.js_heap.specs.declared.object.Object.{Object}
use Rattle.js_heap.specs.declared.scope.Scope.{Scope}
use Rattle.js_heap.specs.declared.class.Class.{Class}
use Rattle.js_heap.specs.declared.class.Class.TheVariants as class
use Rattle.js_heap.specs.declared.root.Root.{Root}
use Rattle.js_heap.specs.declared.root.Root.TheVariants as root
use Rattle.js_value.specs.declared.value.ObjId.{ObjId}
use Rattle.js_host.specs.Keeps.{AllPass, Grows, ObjectHas, Passes, ScopeHas, WorldHas, class_names, prototype_names}
use Rattle.js_host.specs.Tests.{there}
use Rattle.js_host.specs.There.{AreThere}

below_more : (n m : ℕ) (p : Option ℕ) → n ≤ m → IsBelow n p → IsBelow m p
below_more n m None l b = tt
below_more n m (Some k) l b = omega (arith, l, b)

pub each_weaker : {X : Type 0} (P Q : X → Type 0) → ((x : X) → P x → Q x) → (xs : List X) → Each P xs → Each Q xs
each_weaker P Q f [] a = tt
each_weaker P Q f (x ∷ xs) a = (f x a.0, each_weaker P Q f xs a.1)

pub value_stays : (w w' : World) (v : Value) → length w.objects ≤ length w'.objects → IsThere w v → IsThere w' v
value_stays w w' v l t = below_more (length w.objects) (length w'.objects) (object_named v) l t

-- what is there is there where no object is less
pub still_there : (w w' : World) (vs : List Value) → length w.objects ≤ length w'.objects → AreThere w vs → AreThere w' vs
still_there w w' vs l t = each_weaker (IsThere w) (IsThere w') (λ v. value_stays w w' v l) vs t

each_at : {X : Type 0} (P : X → Type 0) (xs : List X) → ((k : ℕ) (x : X) → slice_get xs k ≡ Some x → P x) → Each P xs
each_at P [] f = tt
each_at P (x ∷ xs) f = (f zero x refl, each_at P xs (λ k y e. f (suc k) y e))

at_each : {X : Type 0} (P : X → Type 0) (xs : List X) (k : ℕ) (x : X) → Each P xs → slice_get xs k ≡ Some x → P x
at_each P [] k x a e = cc
at_each P (y ∷ xs) zero x a e = let same : y ≡ x = cc in subst P same a.0
at_each P (y ∷ xs) (suc k) x a e = at_each P xs k x a.1 e

root_among : (n : ℕ) → 15 < n → (r : Root) → root_number r < n
root_among n l root.ObjectPrototype = omega (arith, l)
root_among n l root.Window = omega (arith, l)
root_among n l root.FunctionPrototype = omega (arith, l)
root_among n l root.ArrayPrototype = omega (arith, l)
root_among n l root.StringPrototype = omega (arith, l)
root_among n l root.NumberPrototype = omega (arith, l)
root_among n l root.BooleanPrototype = omega (arith, l)
root_among n l root.DatePrototype = omega (arith, l)
root_among n l root.ErrorPrototype = omega (arith, l)
root_among n l root.TypeErrorPrototype = omega (arith, l)
root_among n l root.RangeErrorPrototype = omega (arith, l)
root_among n l root.ReferenceErrorPrototype = omega (arith, l)
root_among n l root.SyntaxErrorPrototype = omega (arith, l)
root_among n l root.NodePrototype = omega (arith, l)
root_among n l root.EventPrototype = omega (arith, l)
root_among n l root.RequestPrototype = omega (arith, l)

module _ (w : World) (means : (v : Value) → Passes there w v ↔ IsThere w v) where
  pass : (v : Value) → IsThere w v → Passes there w v
  pass v t = (means v).1 t

  class_has : (c : Class) → ClassIsAmong (length w.objects) (length w.scopes) c → Each (Passes there w) (class_names c)
  class_has (class.Bound b) a = (pass b.f a.0, (pass b.this a.1, each_weaker (IsThere w) (Passes there w) pass b.args a.2))
  class_has c a = tt

  prototype_has : (k : ℕ) (p : Option ObjId) → k < length w.objects → IsBelow k (elim p [ None ↦ None | Some o ↦ Some o.number ]) → Each (Passes there w) (prototype_names p)
  prototype_has k None l b = tt
  prototype_has k (Some o) l b = (pass (value.Ref o) (omega (arith, l, b)), tt)

  object_has : (closed : IsClosed w) (k : ℕ) (o : Object) → slice_get w.objects k ≡ Some o → ObjectHas (Passes there w) o
  object_has closed k o e =
      let among = at_each (ObjectIsAmong (length w.objects) (length w.scopes)) w.objects k o closed.each_object e in
      record {
        class = class_has o.class among.named;
        prototype = prototype_has k o.prototype (slice_get_within w.objects k o e) (closed.prototypes k o e);
        properties = each_weaker (λ p. IsThere w p.value) (λ p. Passes there w p.value) (λ p. pass p.value) o.properties among.values;
      }

  scope_has : (s : Scope) → Each (λ b. IsThere w b.value) s.names → ScopeHas (Passes there w) s
  scope_has s a = each_weaker (λ b. IsThere w b.value) (λ b. Passes there w b.value) (λ b. pass b.value) s.names a

  -- all that a closed world names is there
  pub all_there : IsClosed w → 15 < length w.objects → (vs : List Value) → AreThere w vs → AllPass there w vs
  all_there closed last vs t = record {
    world = record {
      objects = each_at (ObjectHas (Passes there w)) w.objects (object_has closed);
      scopes = each_weaker (λ s. Each (λ b. IsThere w b.value) s.names) (ScopeHas (Passes there w)) scope_has w.scopes closed.each_scope;
    };
    roots = λ r. pass (value.Ref (record { number = root_number r })) (root_among (length w.objects) last r);
    values = each_weaker (IsThere w) (Passes there w) pass vs t;
  }

  pub are_there : (vs : List Value) → AllPass there w vs → AreThere w vs
  are_there vs a = each_weaker (Passes there w) (IsThere w) (λ v. (means v).0) vs a.values

abbrev class_in : Object → Class
class_in o = o.class

-- after a call there are no fewer objects
pub no_fewer : (w w' : World) → Grows w w' → length w.objects ≤ length w'.objects
no_fewer w w' g =
    let before : length (classes w) ≡ length w.objects = length-map w.objects class_in in
    let after : length (classes w') ≡ length w'.objects = length-map w'.objects class_in in
    let both : length (classes w') ≡ length (classes w ++ g.added) = ap length g.objects in
    let more : length (classes w ++ g.added) ≡ length (classes w) + length g.added = length-append (classes w) g.added in
    omega (arith, before, after, both, more)
