-- Where a mark stands, step by step.
use Rattle.std.proofs.Common.{◌≡◌, ℕ, ◌+◌, ◌<◌, true, false, List, [], ◌∷◌, length, get_or, drop, drop-cons, add-one, refl, ap, arith}
use Rattle.std.proofs.lemmas.Bool.{cond-true, cond-false}
use Rattle.html_profile.specs.Marks.{stands, place}
use Rattle.html_profile.specs.declared.mark.Mark.{Mark}

here : (mark : Mark) (text : List ℕ) → stands mark text ≡ true → place mark text ≡ 0
here mark [] stands_there = refl
here mark (c ∷ rest) stands_there = cond-true _ _ _ stands_there

pub place_here : (mark : Mark) (text : List ℕ) (i : ℕ) → place mark text ≡ i + place mark (drop i text) → stands mark (drop i text) ≡ true → i ≡ place mark text
place_here mark text i so_far stands_there = omega (arith, here mark (drop i text) stands_there)

later : (mark : Mark) (c : ℕ) (rest : List ℕ) → stands mark (c ∷ rest) ≡ false → place mark (c ∷ rest) ≡ place mark rest + 1
later mark c rest stands_not = cond-false _ _ _ stands_not

pub place_later : (mark : Mark) (text : List ℕ) (i : ℕ) → i < length text → place mark text ≡ i + place mark (drop i text) → stands mark (drop i text) ≡ false → place mark text ≡ (i + 1) + place mark (drop (i + 1) text)
place_later mark text i inside so_far stands_not =
    let cut : drop i text ≡ get_or text i 0 ∷ drop (i + 1) text = rw (add-one, drop-cons text i 0) refl in
    let step = later mark (get_or text i 0) (drop (i + 1) text) (rw (← cut) stands_not) in
    omega (arith, ap (place mark) cut, step)
