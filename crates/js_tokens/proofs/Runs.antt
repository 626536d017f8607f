-- Runs of units that pass a test.
use Rattle.std.proofs.Common.{◌≡◌, ℕ, zero, suc, ◌+◌, ◌≤◌, ◌<◌, Bool, true, false, ◌&&◌, ◌||◌, List, [], ◌∷◌, length, take, drop, get_or, drop-cons, add-one, refl, sym, ◌∙◌, ap, arith, cond}
use Rattle.std.proofs.lemmas.List.Folds.{length-prefix_len}
use Rattle.std.proofs.lemmas.List.Sums.{take_while-cons}
use Rattle.std.specs.List.{list_all, take_while}
use Rattle.js_tokens.specs.Units.{begins}

pub and_left : (a b : Bool) → (a && b) ≡ true → a ≡ true
and_left true b h = refl
and_left false b h = cc

pub and_right : (a b : Bool) → (a && b) ≡ true → b ≡ true
and_right true b h = h
and_right false b h = cc

pub and_both : (a b : Bool) → a ≡ true → b ≡ true → (a && b) ≡ true
and_both true b g h = h
and_both false b g h = cc

pub or_left : (a b : Bool) → (a || b) ≡ false → a ≡ false
or_left true b h = cc
or_left false b h = refl

-- a run's length, by its first unit
step : (p : ℕ → Bool) (u : ℕ) (us : List ℕ) (b : Bool) → p u ≡ b → length (take_while p (u ∷ us)) ≡ length (cond b (u ∷ take_while p us) [])
step p u us b h = ap length (take_while-cons p u us) ∙ ap (λ z. length (cond z (u ∷ take_while p us) [])) h

-- so many units pass, and the next one doesn't
pub run_is : (p : ℕ → Bool) (us : List ℕ) (n : ℕ) → n ≤ length us → list_all p (take n us) ≡ true → begins p (drop n us) ≡ false → n ≡ length (take_while p us)
run_is p [] zero h a b = refl
run_is p [] (suc n) h a b = absurd (omega arith)
run_is p (u ∷ us) zero h a b = sym (step p u us false b)
run_is p (u ∷ us) (suc n) h a b = omega (arith, run_is p us n (omega arith) (and_right (p u) _ a) b, step p u us true (and_left (p u) _ a))

-- where so many pass, the run is as long
pub run_least : (p : ℕ → Bool) (us : List ℕ) (n : ℕ) → n ≤ length us → list_all p (take n us) ≡ true → n ≤ length (take_while p us)
run_least p us zero h a = omega arith
run_least p [] (suc n) h a = h
run_least p (u ∷ us) (suc n) h a = omega (arith, run_least p us n (omega arith) (and_right (p u) _ a), step p u us true (and_left (p u) _ a))

pub run_take : (p : ℕ → Bool) (us : List ℕ) → take (length (take_while p us)) us ≡ take_while p us
run_take p us = ap (λ n. take n us) (length-prefix_len p us)

run_all_by : (p : ℕ → Bool) (u : ℕ) (us : List ℕ) (b : Bool) → p u ≡ b → list_all p (take_while p us) ≡ true → list_all p (cond b (u ∷ take_while p us) []) ≡ true
run_all_by p u us true h a = and_both (p u) _ h a
run_all_by p u us false h a = refl

pub run_all : (p : ℕ → Bool) (us : List ℕ) → list_all p (take_while p us) ≡ true
run_all p [] = refl
run_all p (u ∷ us) = ap (list_all p) (take_while-cons p u us) ∙ run_all_by p u us (p u) refl (run_all p us)

pub begins_drop : (p : ℕ → Bool) (us : List ℕ) (i : ℕ) (b : Bool) → i < length us → p (get_or us i 0) ≡ b → begins p (drop i us) ≡ b
begins_drop p us i b inside h =
    let cut : drop i us ≡ get_or us i 0 ∷ drop (i + 1) us = rw (add-one, drop-cons us i 0) refl in
    ap (begins p) cut ∙ h
