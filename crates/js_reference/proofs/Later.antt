-- What operations do to a world leaves no object and no scope out.
use Rattle.std.proofs.Common.{◌≡◌, ◌≤◌, ℕ, Bool, true, false, List, [], ◌∷◌, ◌++◌, Option, Some, None, length, if◌then◌else◌, slice_get, slice_set, refl, sym, ◌∙◌, subst, arith}
use Rattle.std.proofs.lemmas.List.{length-append, length-set}
use Rattle.std.specs.Option.{option_map, option_map_or}
use Rattle.js_value.specs.declared.value.ObjId.{ObjId}
use Rattle.js_value.specs.declared.value.Value.{Value}
use Rattle.js_heap.specs.Objects.{first_properties, object_without, remove, with_object}
use Rattle.js_heap.specs.Puts.{object_with, put}
use Rattle.js_heap.specs.Scopes.{holder, named_scope, with_name}
use Rattle.js_heap.specs.declared.object.Object.{Object}
use Rattle.js_heap.specs.declared.scope.Scope.{Scope}
use Rattle.js_heap.specs.World.{World}
use Rattle.js_heap.specs.declared.class.ScopeId.{ScopeId}
use Rattle.js_heap.specs.declared.class.Class.TheVariants as class
use Rattle.js_reference.specs.Errors.{ErrorName, error_prototype, with_error}
use Rattle.js_reference.specs.Later.{IsLater}
use Rattle.js_reference.specs.Names.{assigned}
use Rattle.js_reference.specs.Room.{objects_fit}

pub same_later : (w : World) → IsLater w w
same_later w = record { objects = omega arith; scopes = refl }

pub later_then : (w v u : World) → IsLater w v → IsLater v u → IsLater w u
later_then w v u a b = record { objects = omega (arith, a.objects, b.objects); scopes = a.scopes ∙ b.scopes }

length_changed : (os : List Object) (n : ℕ) (f : Object → Object) (o : Option Object) → length (option_map_or (λ k. slice_set os n (f k)) o os) ≡ length os
length_changed os n f None = refl
length_changed os n f (Some k) = length-set os n (f k)

length_named : (ss : List Scope) (n : ℕ) (x : List ℕ) (v : Value) (o : Option Scope) → length (option_map_or (λ s. slice_set ss n (named_scope x v s)) o ss) ≡ length ss
length_named ss n x v None = refl
length_named ss n x v (Some s) = length-set ss n (named_scope x v s)

pub later_put : (w : World) (o : ObjId) (x : List ℕ) (v : Value) (l : Bool) → IsLater w (put w o x v l)
later_put w o x v l =
    let same = length_changed w.objects o.number (object_with x v l) (slice_get w.objects o.number) in
    record { objects = omega (arith, same); scopes = refl }

pub later_remove : (w : World) (o : ObjId) (x : List ℕ) → IsLater w (remove w o x)
later_remove w o x =
    let same = length_changed w.objects o.number (object_without x) (slice_get w.objects o.number) in
    record { objects = omega (arith, same); scopes = refl }

error_made : (w : World) (e : ErrorName) (b : Bool) → IsLater w (if b then with_object w class.Error (Some (error_prototype e)) else w)
error_made w e true =
    let one = length-append w.objects (record { class = class.Error; prototype = Some (error_prototype e); properties = first_properties class.Error } ∷ []) in
    record { objects = omega (arith, one); scopes = refl }
error_made w e false = same_later w

pub later_error : (w : World) (e : ErrorName) → IsLater w (with_error w e)
later_error w e = error_made w e (objects_fit w 1)

holder_named : (w w' : World) (n : Option ℕ) (x : List ℕ) (v : Value) → option_map (λ k. with_name w k x v) n ≡ Some w' → IsLater w w'
holder_named w w' None x v e = cc
holder_named w w' (Some k) x v e =
    let same = length_named w.scopes k x v (slice_get w.scopes k) in
    let is : with_name w k x v ≡ w' = cc in
    subst (IsLater w) is (record { objects = omega arith; scopes = sym same })

pub later_assigned : (w w' : World) (s : Option ScopeId) (x : List ℕ) (v : Value) → assigned w s x v ≡ Some w' → IsLater w w'
later_assigned w w' None x v e = cc
later_assigned w w' (Some s) x v e = holder_named w w' (holder w.scopes (Some s.number) x) x v e
