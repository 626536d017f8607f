-- How bodies are found: by their digests, and one by one those whose digest an earlier one has.
use Rattle.std.specs.Prelude.{◌≡◌, ◌≢◌, ℕ, List, Contains, Option, Some, slice_get}
use Rattle.std.specs.Ordering.{nat_cmp}
use Rattle.std.specs.Cmp.Lexicographic.{slice_cmp}
use Rattle.std.specs.BTreeMap.{BTreeMap, get}
use Rattle.sha2.specs.Sha256.{sha256}
use Rattle.resource_cache.specs.Bodies.{AreDistinct}

-- the place that the index has for a digest
abbrev pub place_by : BTreeMap (List ℕ) ℕ → List ℕ → Option ℕ
place_by index digest = get (slice_cmp nat_cmp) index digest

-- a place is found by its digest or else among the others
abbrev pub IsFound : BTreeMap (List ℕ) ℕ → List ℕ → List ℕ → ℕ → Type 0
IsFound index others digest place = place_by index digest ≢ Some place → Contains others place

-- each place is found that was, and this one
pub record IsNoted (digest : List ℕ) (place : ℕ) (before : BTreeMap (List ℕ) ℕ)
    (others_before : List ℕ) (after : BTreeMap (List ℕ) ℕ) (others_after : List ℕ) : Type 0 where
  pub this : IsFound after others_after digest place
  pub earlier : (d : List ℕ) (k : ℕ) → IsFound before others_before d k
      → IsFound after others_after d k

-- each place is found that was
pub record HasSamePlaces (before : BTreeMap (List ℕ) ℕ) (others_before : List ℕ)
    (after : BTreeMap (List ℕ) ℕ) (others_after : List ℕ) : Type 0 where
  pub earlier : (d : List ℕ) (k : ℕ) → IsFound before others_before d k
      → IsFound after others_after d k

-- the bodies are distinct, and each is found
pub record Holds (bodies : List (List ℕ)) (index : BTreeMap (List ℕ) ℕ) (others : List ℕ)
    : Type 0 where
  pub distinct : AreDistinct bodies
  pub found : (k : ℕ) (body : List ℕ) → slice_get bodies k ≡ Some body
      → IsFound index others (sha256 body) k
