-- Steps along the chain of prototypes, by the law of chains.
use Rattle.std.proofs.Common.{◌≡◌, ℕ, ◌∷◌, Option, Some, None, slice_get, refl, ap, ◌∙◌}
use Rattle.std.specs.Option.{option_map}
use Rattle.js_value.specs.declared.value.ObjId.{ObjId}
use Rattle.js_heap.specs.Chains.{chain, first_some, or_else}
use Rattle.js_heap.specs.Objects.{id_number, prototype_number, prototype_of}
use Rattle.js_heap.specs.World.{World}
use Rattle.js_heap.specs.declared.object.Object.{Object}

module _ (w : World) (leads : (n : ℕ) (o : Object) → slice_get w.objects n ≡ Some o → chain prototype_number w.objects (Some n) ≡ n ∷ chain prototype_number w.objects (prototype_number o)) {A : Type 0} (f : ℕ → Option A) where
  abbrev along : Option ℕ → Option A
  along p = first_some f (chain prototype_number w.objects p)

  step : (n : ℕ) (o : Object) → slice_get w.objects n ≡ Some o → along (Some n) ≡ or_else (f n) (along (prototype_number o))
  step n o e = ap (first_some f) (leads n o e)

  past_of : (n : ℕ) (p : Option ObjId) (o : Option Object) → slice_get w.objects n ≡ o → f n ≡ None → option_map prototype_of o ≡ Some p → along (Some n) ≡ along (option_map id_number p)
  past_of n p None is none e = cc
  past_of n p (Some o) is none e =
      let same : o.prototype ≡ p = cc in
      step n o is ∙ ap (λ q. or_else q (along (prototype_number o))) none ∙ ap (λ q. along (option_map id_number q)) same

  -- the object's own gives nothing, so the prototype's is meant
  pub past : (n : ℕ) (p : Option ObjId) → f n ≡ None → option_map prototype_of (slice_get w.objects n) ≡ Some p → along (Some n) ≡ along (option_map id_number p)
  past n p none e = past_of n p (slice_get w.objects n) refl none e
