-- Steps along the chain of prototypes, by the law of chains.
use Rattle.std.proofs.Common.{◌≡◌, ◌||◌, ℕ, Bool, false, Option, Some, None}
use Rattle.std.proofs.Common.{slice_get, refl, ap, ◌∙◌}
use Rattle.std.specs.List.{list_any}
use Rattle.std.specs.Option.{option_map}
use Rattle.js_value.specs.declared.value.ObjId.{ObjId}
use Rattle.js_heap.specs.Chains.{LeadsOn, chain}
use Rattle.js_heap.specs.Objects.{id_number, prototype_number, prototype_of}
use Rattle.js_heap.specs.World.{World}
use Rattle.js_heap.specs.declared.object.Object.{Object}

module _ (w : World) (leads : LeadsOn prototype_number w.objects) (p : ℕ → Bool) where
  abbrev along : Option ℕ → Bool
  along q = list_any p (chain prototype_number w.objects q)

  step : (n : ℕ) (o : Object) → slice_get w.objects n ≡ Some o
      → along (Some n) ≡ (p n || along (prototype_number o))
  step n o e = ap (list_any p) (leads n o e)

  past_of : (n : ℕ) (q : Option ObjId) (o : Option Object) → slice_get w.objects n ≡ o
      → p n ≡ false → option_map prototype_of o ≡ Some q
      → along (Some n) ≡ along (option_map id_number q)
  past_of n q None is none e = cc
  past_of n q (Some o) is none e =
      let same : o.prototype ≡ q = cc in
      step n o is ∙ ap (λ b. b || along (prototype_number o)) none
      ∙ ap (λ r. along (option_map id_number r)) same

  -- the object isn't meant, so one of its prototypes is, or none
  pub past : (n : ℕ) (q : Option ObjId) → p n ≡ false
      → option_map prototype_of (slice_get w.objects n) ≡ Some q
      → along (Some n) ≡ along (option_map id_number q)
  past n q none e = past_of n q (slice_get w.objects n) refl none e
