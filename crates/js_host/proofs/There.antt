-- The test of what is there is what the heap means by it.
use Rattle.std.proofs.Common.{◌≡◌, ◌↔◌, ◌<◌, ℕ, zero, suc, List, [], ◌∷◌, true, Option, Some, None, is_some, length, map, slice_get, refl, ap, sym, ◌∙◌, subst}
use Rattle.std.proofs.lemmas.List.{length-map}
use Rattle.std.proofs.lemmas.Option.{slice_get_within, slice_get-get_or}
use Rattle.js_value.specs.declared.value.Callee.TheVariants as callee
use Rattle.js_value.specs.declared.value.Value.{Value}
use Rattle.js_value.specs.declared.value.Value.TheVariants as value
use Rattle.js_heap.specs.Closed.{IsThere}
use Rattle.js_heap.specs.World.{World, classes}
use Rattle.js_heap.specs.declared.class.Class.{Class}
use Rattle.js_heap.specs.declared.class.Class.TheVariants.{Object}
use Rattle.js_heap.specs.declared.object.Object.{Object as Kept}
use Rattle.js_host.specs.Keeps.{Passes}
use Rattle.js_host.specs.Tests.{there}

within : (cs : List Class) (n : ℕ) (o : Option Class) → slice_get cs n ≡ o → is_some o ≡ true → n < length cs
within cs n None e t = cc
within cs n (Some c) e t = slice_get_within cs n c e

abbrev class_in : Kept → Class
class_in o = o.class

counted : (w : World) → length (classes w) ≡ length w.objects
counted w = length-map w.objects class_in

there-among : (w : World) (n : ℕ) → is_some (slice_get (classes w) n) ≡ true → n < length w.objects
there-among w n t = subst (λ m. n < m) (counted w) (within (classes w) n (slice_get (classes w) n) refl t)

among-some : (w : World) (n : ℕ) → n < length w.objects → is_some (slice_get (classes w) n) ≡ true
among-some w n l = ap is_some (slice_get-get_or (classes w) n Object (subst (λ m. n < m) (sym (counted w)) l))

pub among-there : (w : World) (v : Value) → Passes there w v ↔ IsThere w v
among-there w (value.Ref o) = (there-among w o.number, among-some w o.number)
among-there w (value.Wrap f (callee.Ref o)) = (there-among w o.number, among-some w o.number)
among-there w (value.Wrap f (callee.Native n)) = (λ t. tt, λ t. refl)
among-there w v = (λ t. tt, λ t. refl)
