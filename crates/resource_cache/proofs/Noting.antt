-- What a noted place adds to the index.
use Rattle.std.proofs.Common.{◌≡◌, ℕ, Bool, true, false, List, Option, None, Some, is_some}
use Rattle.std.proofs.Common.{Ordering, refl, ◌∙◌, ap}
use Rattle.std.specs.Ordering.{is_eq, nat_cmp}
use Rattle.std.specs.declared.cmp.Ordering.TheVariants.{Less, Equal, Greater}
use Rattle.std.specs.Cmp.Lexicographic.{slice_cmp}
use Rattle.std.specs.BTreeMap.{BTreeMap, Updates, is_at}
use Rattle.std.proofs.lemmas.Map.Lookups.{exact_bytes}
use Rattle.resource_cache.specs.inner.Places.{IsNoted, place_by}

-- a digest that compares as this one is it
same_digest : (digest d : List ℕ) → is_at (slice_cmp nat_cmp digest) d ≡ true → digest ≡ d
same_digest digest d is = exact_bytes digest d (equal (slice_cmp nat_cmp digest d) is)
  where
    equal : (o : Ordering) → is_eq o ≡ true → o ≡ Equal
    equal Less is = cc
    equal Equal is = refl
    equal Greater is = cc

none_there : (place : Option ℕ) (k : ℕ) → is_some place ≡ false → place ≡ Some k → ⊥
none_there None k none is = cc
none_there (Some n) k none is = cc

module _ (digest : List ℕ) (place : ℕ) (before after : BTreeMap (List ℕ) ℕ) where
  kept : is_some (place_by before digest) ≡ false
      → Updates (slice_cmp nat_cmp) before after digest (Some place)
      → (d : List ℕ) (k : ℕ) (same : Bool)
      → is_at (slice_cmp nat_cmp digest) d ≡ same → place_by before d ≡ Some k
      → place_by after d ≡ Some k
  kept none updates d k true same there =
      absurd (none_there (place_by before digest) k none
      (ap (place_by before) (same_digest digest d same) ∙ there))
  kept none updates d k false other there = updates.2 d other ∙ there

  pub noted_new : (others : List ℕ) → is_some (place_by before digest) ≡ false
      → Updates (slice_cmp nat_cmp) before after digest (Some place)
      → IsNoted digest place before others after others
  noted_new others none updates = record {
    this = λ missing. absurd (missing updates.1);
    earlier = λ d k found missing. found (λ there. missing
        (kept none updates d k (is_at (slice_cmp nat_cmp digest) d) refl there));
  }
