-- The places of units, byte by byte.
use Rattle.std.proofs.Common.{◌≡◌, ℕ, ◌+◌, ◌-◌, ◌<◌, ◌≤◌, ◌∷◌, true, false, nat_lt, List, length, get_or, drop, ap, ◌∙◌, arith}
use Rattle.std.proofs.lemmas.Bool.{cond-true, cond-false}
use Rattle.std.proofs.lemmas.List.{drop_all}
use Rattle.html_profile.specs.ScriptPlaces.{units_at, place_behind}
use Rattle.html_profile.proofs.Attributes.{cut_at}

module _ (bytes : List ℕ) (n i before left c : ℕ) (so_far : place_behind 0 n bytes ≡ i + place_behind before left (drop i bytes)) where
  module _ (inside : i < length bytes) (here : c ≡ get_or bytes i c) where
    cut : place_behind before left (drop i bytes) ≡ place_behind before left (c ∷ drop (i + 1) bytes)
    cut = ap (place_behind before left) (cut_at bytes i c inside here)

    pub begins_here : nat_lt left (units_at before c) ≡ true → i ≡ place_behind 0 n bytes
    begins_here less = omega (arith, so_far, cut ∙ cond-true _ _ _ less)

    pub begins_later : nat_lt left (units_at before c) ≡ false → place_behind 0 n bytes ≡ (i + 1) + place_behind c (left - units_at before c) (drop (i + 1) bytes)
    begins_later more = omega (arith, so_far, cut ∙ cond-false _ _ _ more)

  pub no_more : length bytes ≤ i → i ≤ length bytes → length bytes ≡ place_behind 0 n bytes
  no_more past within = omega (arith, so_far, ap (place_behind before left) (drop_all i bytes past))
