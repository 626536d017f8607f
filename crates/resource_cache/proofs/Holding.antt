-- The bodies and the index, after another body is added and where none is.
use Rattle.std.proofs.Common.{◌≡◌, ℕ, zero, suc, ◌⊎◌, inl, inr, List, [], ◌∷◌, ◌++◌, Some}
use Rattle.std.proofs.Common.{length, slice_get, refl, sym, ◌∙◌, ap, subst}
use Rattle.std.specs.BTreeMap.{BTreeMap}
use Rattle.sha2.specs.Sha256.{sha256}
use Rattle.resource_cache.specs.Bodies.{AreDistinct, IsMissing}
use Rattle.resource_cache.specs.inner.Places.{HasSamePlaces, Holds, IsFound, IsNoted}

pub holds_still : (bodies : List (List ℕ)) (before after : BTreeMap (List ℕ) ℕ)
    (others others' : List ℕ) → Holds bodies before others
    → HasSamePlaces before others after others' → Holds bodies after others'
holds_still bodies before after others others' holds same = record {
  distinct = holds.distinct;
  found = λ k body at. same.earlier (sha256 body) k (holds.found k body at);
}

-- a body of the longer list is an earlier one or the last
at_push : (bodies : List (List ℕ)) (last : List ℕ) (k : ℕ) (body : List ℕ)
    → slice_get (bodies ++ last ∷ []) k ≡ Some body
    → (slice_get bodies k ≡ Some body) ⊎ ((k ≡ length bodies) × (last ≡ body))
at_push [] last zero body at = inr (refl, cc)
at_push [] last (suc k) body at = absurd (cc)
at_push (b ∷ bodies) last zero body at = inl at
at_push (b ∷ bodies) last (suc k) body at = elim (at_push bodies last k body at) [
  | inl earlier ↦ inl earlier
  | inr (is, same) ↦ inr (ap suc is, same)
]

module _ (bodies : List (List ℕ)) (last : List ℕ) (missing : IsMissing last bodies) where
  same_place : AreDistinct bodies → AreDistinct (bodies ++ last ∷ [])
  same_place distinct j k body at_j at_k = elim (at_push bodies last j body at_j) [
    | inl j_earlier ↦ elim (at_push bodies last k body at_k) [
      | inl k_earlier ↦ distinct j k body j_earlier k_earlier
      | inr (k_last, same) ↦ absurd (missing j (j_earlier ∙ ap Some (sym same)))
    ]
    | inr (j_last, same) ↦ elim (at_push bodies last k body at_k) [
      | inl k_earlier ↦ absurd (missing k (k_earlier ∙ ap Some (sym same)))
      | inr (k_last, also) ↦ j_last ∙ sym k_last
    ]
  ]

  pub holds_more : (before after : BTreeMap (List ℕ) ℕ) (others others' : List ℕ)
      → Holds bodies before others
      → IsNoted (sha256 last) (length bodies) before others after others'
      → Holds (bodies ++ last ∷ []) after others'
  holds_more before after others others' holds noted = record {
    distinct = same_place holds.distinct;
    found = λ k body at. elim (at_push bodies last k body at) [
      | inl earlier ↦ noted.earlier (sha256 body) k (holds.found k body earlier)
      | inr (is, same) ↦
          subst (λ (n : ℕ). IsFound after others' (sha256 body) n) (sym is)
          (subst (λ (b : List ℕ). IsFound after others' (sha256 b) (length bodies)) same noted.this)
    ];
  }
