-- Attributes that are looked for by name.
use Rattle.std.proofs.Common.{◌≡◌, ℕ, zero, suc, ◌+◌, ◌<◌, true, List, [], ◌∷◌, ◌++◌, length, get_or, take, drop, drop-cons, add-one, refl, sym, ap, ◌∙◌}
use Rattle.std.proofs.lemmas.Bool.{cond-true}
use Rattle.std.specs.Str.{bytes_eq}
use Rattle.html_profile.specs.declared.document.DocAttribute.{DocAttribute}
use Rattle.dom_tree.specs.Names.{with_value}
use Rattle.dom_tree.specs.Changes.{changed}

cut_at : {X : Type 0} (xs : List X) (i : ℕ) (x : X) → i < length xs → x ≡ get_or xs i x → drop i xs ≡ x ∷ drop (i + 1) xs
cut_at xs i x inside is =
    let step : drop i xs ≡ get_or xs i x ∷ drop (i + 1) xs = rw (add-one, drop-cons xs i x) refl in
    step ∙ ap (λ y. y ∷ drop (i + 1) xs) (sym is)

-- a change, by the parts before and behind it
changed_cut : {X : Type 0} (f : X → X) (i : ℕ) (xs : List X) (x : X) (more : List X) → drop i xs ≡ x ∷ more → take i xs ++ f x ∷ more ≡ changed f i xs
changed_cut f zero [] x more is = cc
changed_cut f (suc i) [] x more is = cc
changed_cut f zero (y ∷ ys) x more is = ap (changed f zero) (sym is)
changed_cut f (suc i) (y ∷ ys) x more is = ap (λ l. y ∷ l) (changed_cut f i ys x more is)

abbrev pub given : List ℕ → DocAttribute → DocAttribute
given value a = record a { value = value }

pub value_given : (name value : List ℕ) (attributes : List DocAttribute) (i : ℕ) (a : DocAttribute) → i < length attributes → a ≡ get_or attributes i a
    → with_value name value attributes ≡ take i attributes ++ with_value name value (drop i attributes) → bytes_eq a.name name ≡ true → with_value name value attributes ≡ changed (given value) i attributes
value_given name value attributes i a inside is so_far same =
    let cut = cut_at attributes i a inside is in
    so_far ∙ ap (λ l. take i attributes ++ with_value name value l) cut
    ∙ ap (λ l. take i attributes ++ l) (cond-true (bytes_eq a.name name) (given value a ∷ drop (i + 1) attributes) (a ∷ with_value name value (drop (i + 1) attributes)) same)
    ∙ changed_cut (given value) i attributes a (drop (i + 1) attributes) cut
