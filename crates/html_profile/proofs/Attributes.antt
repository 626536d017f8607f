-- Attributes, one after another.
use Rattle.std.proofs.Common.{◌≡◌, ℕ, ◌+◌, ◌<◌, true, false, List, ◌∷◌, length, get_or, drop, drop-cons, add-one, Some, refl, sym, ap, ◌∙◌}
use Rattle.std.proofs.lemmas.Bool.{cond-true, cond-false}
use Rattle.std.specs.Str.{bytes_eq}
use Rattle.html_profile.specs.Names.{value_named}
use Rattle.html_profile.specs.declared.tag.Attribute.{Attribute}

pub cut_at : {X : Type 0} (xs : List X) (i : ℕ) (x : X) → i < length xs → x ≡ get_or xs i x → drop i xs ≡ x ∷ drop (i + 1) xs
cut_at xs i x inside is =
    let step : drop i xs ≡ get_or xs i x ∷ drop (i + 1) xs = rw (add-one, drop-cons xs i x) refl in
    step ∙ ap (λ y. y ∷ drop (i + 1) xs) (sym is)

pub value_here : (name : List ℕ) (attributes : List Attribute) (i : ℕ) (a : Attribute) → i < length attributes → a ≡ get_or attributes i a
    → value_named name attributes ≡ value_named name (drop i attributes) → bytes_eq a.name name ≡ true → value_named name attributes ≡ Some a.value
value_here name attributes i a inside is so_far same = so_far ∙ ap (value_named name) (cut_at attributes i a inside is) ∙ cond-true _ _ _ same

pub value_later : (name : List ℕ) (attributes : List Attribute) (i : ℕ) (a : Attribute) → i < length attributes → a ≡ get_or attributes i a
    → value_named name attributes ≡ value_named name (drop i attributes) → bytes_eq a.name name ≡ false → value_named name attributes ≡ value_named name (drop (i + 1) attributes)
value_later name attributes i a inside is so_far other = so_far ∙ ap (value_named name) (cut_at attributes i a inside is) ∙ cond-false _ _ _ other
