-- No object and no scope goes as a call declares what it does.
use Rattle.std.proofs.Common.{◌≡◌, ℕ, zero, suc, ◌<◌, ◌≤◌, List, [], ◌∷◌, ◌++◌, Option, Some}
use Rattle.std.proofs.Common.{None}
use Rattle.std.proofs.Common.{length, slice_get, refl, sym, ◌∙◌, subst, arith, length-set}
use Rattle.std.proofs.Common.{length-append}
use Rattle.std.specs.Prelude.{Bool, codes, false, slice_set}
use Rattle.std.specs.Option.{option_map_or}
use Rattle.js_value.specs.declared.value.Value.TheVariants as value
use Rattle.js_heap.specs.declared.class.Class.TheVariants as class
use Rattle.js_heap.specs.declared.root.Root.TheVariants as root
use Rattle.js_reference.proofs.There.{still_there}
use Rattle.js_reference.specs.Errors.{next_object, root_object}
use Rattle.js_value.specs.declared.value.ObjId.{ObjId}
use Rattle.js_value.specs.declared.value.Value.{Value}
use Rattle.js_value.specs.Image.{image}
use Rattle.js_value.specs.declared.value.Callee.TheVariants as callee
use Rattle.js_heap.specs.Chains.{IsBelow}
use Rattle.js_heap.specs.Closed.{IsThere}
use Rattle.js_heap.specs.Objects.{first_properties, with_object}
use Rattle.js_heap.specs.Puts.{object_with, put}
use Rattle.js_heap.specs.Scopes.{declare, named_scope, with_scope}
use Rattle.js_heap.specs.World.{World}
use Rattle.js_heap.specs.declared.class.Class.{Class}
use Rattle.js_heap.specs.declared.class.Code.{Code}
use Rattle.js_heap.specs.declared.class.ScopeId.{ScopeId}
use Rattle.js_host.specs.There.{AreThere}
use Rattle.js_reference.specs.Functions.{with_function, with_function_objects}
use Rattle.js_reference.specs.Later.{IsLater}
use Rattle.js_stmt.specs.Wider.{IsWider}
use Rattle.js_value.specs.declared.value.ObjId.{ObjId as Id}
use Rattle.js_reference.specs.Callables.{as_object}

set_kept : {X : Type 0} (xs : List X) (n : ℕ) (f : X → X) (o : Option X)
    → length (option_map_or (λ x. slice_set xs n (f x)) o xs) ≡ length xs
set_kept xs n f (Some x) = length-set xs n (f x)
set_kept xs n f None = refl

-- a scope is given a name
pub declared_later : (w w' : World) (s : ScopeId) (x : List ℕ) (v : Value) → w' ≡ declare w s x v
    → IsLater w w'
declared_later w w' s x v e =
    let kept = set_kept w.scopes s.number (named_scope x v) (slice_get w.scopes s.number) in
    subst (IsLater w) (sym e) (record { objects = omega arith; scopes = sym kept })

-- an object is given a property
pub put_later : (w w' : World) (o : ObjId) (x : List ℕ) (v : Value) (b : Bool)
    → w' ≡ put w o x v b → IsLater w w'
put_later w w' o x v b e =
    let kept = set_kept w.objects o.number (object_with x v b) (slice_get w.objects o.number) in
    subst (IsLater w) (sym e) (record { objects = omega (arith, kept); scopes = refl })

longer : {X : Type 0} (xs : List X) (x : X) → length xs < length (xs ++ x ∷ [])
longer xs x = let both = length-append xs (x ∷ []) in omega (arith, both)

object_more : (w : World) (k : Class) (p : Option ObjId)
    → length w.objects < length (with_object w k p).objects
object_more w k p =
    longer w.objects (record { class = k; prototype = p; properties = first_properties k })

pub object_later : (w w' : World) (k : Class) (p : Option ObjId) → w' ≡ with_object w k p
    → IsLater w w'
object_later w w' k p e =
    let more = object_more w k p in
    subst (IsLater w) (sym e) (record { objects = omega (arith, more); scopes = refl })

pub later_twice : (w w' w'' : World) → IsLater w w' → IsLater w' w'' → IsLater w w''
later_twice w w' w'' a b =
    let first = a.objects in let second = b.objects in
    record { objects = omega (arith, first, second); scopes = a.scopes ∙ b.scopes }

pub there_later : (w w' : World) (vs : List Value) → IsLater w w' → AreThere w vs → AreThere w' vs
there_later w w' vs l t = still_there w w' vs l.objects t

pub scope_later : (w w' : World) (n : ℕ) → IsLater w w' → n < length w.scopes → n < length w'.scopes
scope_later w w' n l b = let same = l.scopes in omega (arith, same, b)

pub argument_there : (w : World) (vs : List Value) (i : ℕ) (v : Value) → AreThere w vs
    → Some v ≡ slice_get vs i → IsThere w v
argument_there w [] i v t e = cc
argument_there w (u ∷ vs) zero v t e =
    let same : v ≡ u = cc in subst (IsThere w) (sym same) t.0
argument_there w (u ∷ vs) (suc i) v t e = argument_there w vs i v t.1 e

pub later_same : (w : World) → IsLater w w
later_same w = record { objects = omega arith; scopes = refl }

pub object_there_later : (w w' : World) (n : ℕ) → IsLater w w' → n < length w.objects
    → n < length w'.objects
object_there_later w w' n l b = let more = l.objects in omega (arith, more, b)

-- a new function is there, and no object and no scope goes
pub function_later : (w w' : World) (code : Code) → w' ≡ with_function w code
    → IsLater w w' × (length w.objects < length w'.objects)
function_later w w' code e =
    let kind = class.Function code in
    let v : World = with_object w kind (Some (root_object root.FunctionPrototype)) in
    let o : World = with_function_objects w code in
    let first = object_more w (class.Function code) (Some (root_object root.FunctionPrototype)) in
    let second = object_more v class.Object (Some (root_object root.ObjectPrototype)) in
    let p : World = put o (next_object w) (codes "prototype") (value.Ref (next_object v)) false in
    let one = (put_later o p (next_object w) (codes "prototype") (value.Ref (next_object v)) false
    refl).objects in
    let two = (put_later p (with_function w code) (next_object v) (codes "constructor")
    (value.Ref (next_object w)) false refl).objects in
    let more : length w.objects < length (with_function w code).objects =
    omega (arith, first, second, one, two) in (
      subst (IsLater w) (sym e) (record { objects = omega (arith, more); scopes = refl }),
      subst (λ y. length w.objects < length y.objects) (sym e) more,
    )

pub below_later : (w w' : World) (p : Option ℕ) → IsLater w w' → IsBelow (length w.scopes) p
    → IsBelow (length w'.scopes) p
below_later w w' None l b = tt
below_later w w' (Some n) l b = let same = l.scopes in omega (arith, same, b)

-- with one more scope
pub scope_added : (w w' : World) (p : Option ScopeId) → w' ≡ with_scope w p
    → (length w.objects ≤ length w'.objects) × (length w.scopes < length w'.scopes)
scope_added w w' p e =
    let more = longer w.scopes (record { parent = p; names = [] }) in
    subst (λ y. (length w.objects ≤ length y.objects) × (length w.scopes < length y.scopes)) (sym e)
    (omega arith, omega (arith, more))

pub added_there : (w w' : World) (p : Option ScopeId) (vs : List Value) → w' ≡ with_scope w p
    → AreThere w vs → AreThere w' vs
added_there w w' p vs e t = still_there w w' vs (scope_added w w' p e).0 t

-- an image is there where the value is
pub image_there : (w : World) (v : Value) → IsThere w v → IsThere w (image v)
image_there w (value.Wrap f (callee.Ref o)) t = t
image_there w (value.Wrap f (callee.Native n)) t = tt
image_there w v t = t

pub object_there : (w : World) (v : Value) (o : Id) → IsThere w v → Some o ≡ as_object v
    → o.number < length w.objects
object_there w (value.Ref n) o t e = let same : o ≡ n = cc in rw same t
object_there w (value.Wrap f (callee.Ref n)) o t e = let same : o ≡ n = cc in rw same t
object_there w (value.Wrap f (callee.Native n)) o t e = absurd cc
object_there w v o t e = absurd cc

-- a scope is added, and then nothing goes
pub wider_by : (w w' w'' w3 : World) (p : Option ScopeId) → w' ≡ with_scope w p → IsLater w' w''
    → IsLater w'' w3 → IsWider w w3
wider_by w w' w'' w3 p e a b =
    let more = scope_added w w' p e in
    let one = a.objects in let two = b.objects in let three = a.scopes in let four = b.scopes in
    record {
      objects = omega (arith, more.0, one, two);
      scopes = omega (arith, more.1, three, four);
    }
