-- The lines of a file, one after another.
use Rattle.std.proofs.Common.{◌≡◌, ◌≢◌, ℕ, zero, suc, ◌+◌, ◌-◌, ◌≤◌, List, [], ◌∷◌, length, Ok, Err, refl, ap, arith}
use Rattle.arrival_file.specs.declared.arrival.ArrivalFault.{ArrivalFault}
use Rattle.arrival_file.specs.Lines.{and_then, at, whole_line}
use Rattle.arrival_file.specs.Format.{SoFar, lines, row}

pub nothing_left : (bytes : List ℕ) → length bytes ≡ 0 → bytes ≡ []
nothing_left [] none = refl
nothing_left (b ∷ bytes) none = absurd (omega arith)

pub lines-end : (n number : ℕ) (so_far : SoFar) → lines n number so_far [] ≡ Ok so_far
unfolding lines
lines-end zero number so_far = refl
lines-end (suc n) number so_far = refl

pub lines-stop : (n number : ℕ) (so_far : SoFar) (rest : List ℕ) (fault : ArrivalFault) → rest ≢ [] → length rest ≤ n → at number (and_then (whole_line rest) (row so_far)) ≡ Err fault
    → lines n number so_far rest ≡ Err fault
unfolding lines
lines-stop n number so_far [] fault some room stops = absurd (some refl)
lines-stop zero number so_far (b ∷ bytes) fault some room stops = absurd (omega arith)
lines-stop (suc n) number so_far (b ∷ bytes) fault some room stops = ap (λ r. and_then r (λ (so_far', after). lines n (number + 1) so_far' after)) stops

pub lines-more : (n number : ℕ) (so_far so_far' : SoFar) (rest after : List ℕ) → rest ≢ [] → length rest ≤ n → at number (and_then (whole_line rest) (row so_far)) ≡ Ok (so_far', after)
    → lines n number so_far rest ≡ lines (n - 1) (number + 1) so_far' after
unfolding lines
lines-more n number so_far so_far' [] after some room goes_on = absurd (some refl)
lines-more zero number so_far so_far' (b ∷ bytes) after some room goes_on = absurd (omega arith)
lines-more (suc n) number so_far so_far' (b ∷ bytes) after some room goes_on = let one : suc n - 1 ≡ n = omega arith in rw (one, goes_on) refl
