-- The numbers of a file that reads are in their ranges.
use Rattle.std.proofs.Common.{◌≡◌, ℕ, zero, suc, ◌+◌, ◌<◌, ◌⊎◌, inl, inr, Bool, true, false, ◌&&◌, nat_lt, if◌then◌else◌, All, List, [], ◌∷◌, ◌++◌, None, Some, IfSome, option_to_list, Result, Ok, Err, is_ok, IfOk, MatchResult, length, ◌≤◌, arith, codes, decimal, refl, sym, ap, subst}
use Rattle.std.specs.Str.{bytes_eq}
use Rattle.std.specs.Str.Parse.{digits_value}
use Rattle.std.proofs.lemmas.List.Elements.{All-cons, All-nil, All-push}
use Rattle.mug_text.specs.declared.limits.TheConstants.{SAFE_END}
use Rattle.arrival_file.specs.declared.limits.TheConstants.{WORD_END}
use Rattle.arrival_file.specs.declared.arrival.Arrival.{Arrival}
use Rattle.arrival_file.specs.declared.arrival.ArrivalKind.TheVariants.{Number}
use Rattle.arrival_file.specs.declared.arrival.Turn.TheVariants.{Load}
use Rattle.arrival_file.specs.declared.stop.Stop.TheVariants.{Breaks}
use Rattle.arrival_file.specs.Lines.{Line, Parsed, and_then, at, whole_line}
use Rattle.arrival_file.specs.Format.{SoFar, alone, begins, lines, load, now, number, one_field, rand, row, with_now, with_rand}
use Rattle.arrival_file.specs.Ranges.{IsInRange}
use Rattle.arrival_file.proofs.FieldValues.{is_below}

-- ---- steps that came to something

and_then-ok : {T U E : Type 0} → (step : Result T E) (next : T → Result U E) (y : U) → and_then step next ≡ Ok y → (x : T) × (step ≡ Ok x) × (next x ≡ Ok y)
and_then-ok (Ok x) next y is = (x, refl, is)
and_then-ok (Err e) next y is = absurd (cc)

at-ok : {T : Type 0} → (n : ℕ) (step : Parsed T) (x : T) → at n step ≡ Ok x → step ≡ Ok x
at-ok n (Ok x) y is = cc
at-ok n (Err stop) y is = absurd (cc)

chosen : {T : Type 0} → (b : Bool) (x y r : T) → (if b then x else y) ≡ r → (x ≡ r) ⊎ (y ≡ r)
chosen true x y r is = inl is
chosen false x y r is = inr is

one_field-ok : {T : Type 0} → (fields : List (List ℕ)) (row : List ℕ → Parsed T) (x : T) → one_field fields row ≡ Ok x → (field : List ℕ) × (row field ≡ Ok x)
one_field-ok [] row x is = absurd (cc)
one_field-ok (field ∷ []) row x is = (field, is)
one_field-ok (field ∷ other ∷ fields) row x is = absurd (cc)

number-below : (end : ℕ) (field : List ℕ) (n : ℕ) → number end field ≡ Ok n → n < end
number-below end field n is = small (nat_lt value end) (bytes_eq (decimal value) field) refl is
  where
    value : ℕ
    value = digits_value 10 field

    small : (less same : Bool) → nat_lt value end ≡ less → (if less && same then Ok value else Err (Breaks Number)) ≡ Ok n → n < end
    small true true less is = let e : value ≡ n = cc in subst (λ (m : ℕ). m < end) e (is_below value end less)
    small true false less is = absurd (cc)
    small false same less is = absurd (cc)

-- ---- rows

load-range : (so_far : SoFar) (field : List ℕ) (arrival : Arrival) → load so_far field ≡ Ok arrival → IsInRange arrival
load-range None field arrival is =
    let step = and_then-ok (number SAFE_END field) (λ t. begins None (Load t)) arrival is in
    let begun : Arrival = record { turn = Load step.0; nows = []; rands = [] } in
    let same : begun ≡ arrival = let h = step.2 in cc in
    subst IsInRange same (record { moment = number-below SAFE_END field step.0 step.1; nows = All-nil _; rands = All-nil _ })
load-range (Some before) field arrival is = let step = and_then-ok (number SAFE_END field) (λ t. begins (Some before) (Load t)) arrival is in let h = step.2 in absurd (cc)

now-range : (so_far : SoFar) (field : List ℕ) (arrival : Arrival) → IfSome so_far IsInRange → now so_far field ≡ Ok arrival → IsInRange arrival
now-range None field arrival before is = let step = and_then-ok (number SAFE_END field) (λ v. with_now None v) arrival is in let h = step.2 in absurd (cc)
now-range (Some old) field arrival before is =
    let step = and_then-ok (number SAFE_END field) (λ v. with_now (Some old) v) arrival is in
    let read : Arrival = record old { nows = old.nows ++ step.0 ∷ [] } in
    let same : read ≡ arrival = let h = step.2 in cc in
    subst IsInRange same (record { moment = before.moment; nows = All-push (λ v. v < SAFE_END) old.nows step.0 before.nows (number-below SAFE_END field step.0 step.1); rands = before.rands })

rand-range : (so_far : SoFar) (field : List ℕ) (arrival : Arrival) → IfSome so_far IsInRange → rand so_far field ≡ Ok arrival → IsInRange arrival
rand-range None field arrival before is = let step = and_then-ok (number WORD_END field) (λ w. with_rand None w) arrival is in let h = step.2 in absurd (cc)
rand-range (Some old) field arrival before is =
    let step = and_then-ok (number WORD_END field) (λ w. with_rand (Some old) w) arrival is in
    let read : Arrival = record old { rands = old.rands ++ step.0 ∷ [] } in
    let same : read ≡ arrival = let h = step.2 in cc in
    subst IsInRange same (record { moment = before.moment; nows = before.nows; rands = All-push (λ w. w < WORD_END) old.rands step.0 before.rands (number-below WORD_END field step.0 step.1) })

alone-range : (line : Line) (by_field : List ℕ → Parsed Arrival) (read : SoFar × List ℕ) → ((field : List ℕ) (arrival : Arrival) → by_field field ≡ Ok arrival → IsInRange arrival)
    → alone line by_field ≡ Ok read → IfSome read.0 IsInRange
alone-range line by_field read ranges is =
    let step = and_then-ok (one_field line.fields by_field) (λ arrival. Ok (Some arrival, line.after)) read is in
    let field = one_field-ok line.fields by_field step.0 step.1 in
    let same : Some step.0 ≡ read.0 = let h = step.2 in cc in
    subst (λ (s : SoFar). IfSome s IsInRange) same (ranges field.0 step.0 field.1)

row-range : (so_far : SoFar) (line : Line) (read : SoFar × List ℕ) → IfSome so_far IsInRange → row so_far line ≡ Ok read → IfSome read.0 IsInRange
row-range so_far line read before is =
    elim (chosen (bytes_eq line.word (codes "load")) _ _ _ is) [
      | inl loads ↦ alone-range line (load so_far) read (load-range so_far) loads
      | inr other ↦ elim (chosen (bytes_eq line.word (codes "now")) _ _ _ other) [
        | inl nows ↦ alone-range line (now so_far) read (λ field arrival. now-range so_far field arrival before) nows
        | inr another ↦ elim (chosen (bytes_eq line.word (codes "rand")) _ _ _ another) [
          | inl rands ↦ alone-range line (rand so_far) read (λ field arrival. rand-range so_far field arrival before) rands
          | inr none ↦ absurd (cc)
        ]
      ]
    ]

pub lines-range : (n number : ℕ) (so_far read : SoFar) (bytes : List ℕ) → IfSome so_far IsInRange → lines n number so_far bytes ≡ Ok read → IfSome read IsInRange
unfolding lines
lines-range zero number so_far read bytes before is = let same : so_far ≡ read = cc in subst (λ (s : SoFar). IfSome s IsInRange) same before
lines-range (suc n) number so_far read [] before is = let same : so_far ≡ read = cc in subst (λ (s : SoFar). IfSome s IsInRange) same before
lines-range (suc n) number so_far read (b ∷ bytes) before is =
    let step = and_then-ok (at number (and_then (whole_line (b ∷ bytes)) (row so_far))) (λ (so_far', after). lines n (number + 1) so_far' after) read is in
    let line = and_then-ok (whole_line (b ∷ bytes)) (row so_far) step.0 (at-ok number (and_then (whole_line (b ∷ bytes)) (row so_far)) step.0 step.1) in
    lines-range n (number + 1) step.0.0 read step.0.1 (row-range so_far line.0 step.0 before line.2) step.2

pub turns-range : (so_far : SoFar) (turns : List Arrival) → turns ≡ option_to_list so_far → IfSome so_far IsInRange → (length turns ≤ 1) × All IsInRange turns
turns-range None turns is range = (omega (arith, ap length is), subst (λ (l : List Arrival). All IsInRange l) (sym is) (All-nil IsInRange))
turns-range (Some arrival) turns is range = (omega (arith, ap length is), subst (λ (l : List Arrival). All IsInRange l) (sym is) (All-cons IsInRange arrival [] range (All-nil IsInRange)))

-- what holds of what a call came to also holds behind another error
pub ok-behind : {T D E : Type 0} → (r : Result T E) (s : Result T D) (P : T → Type 0) (Q : E → Type 0) (y : T) → is_ok s ≡ is_ok r → MatchResult r (λ x. s ≡ Ok x) Q → s ≡ Ok y → IfOk r P → P y
ok-behind (Ok x) s P Q y variant cases is holds = let same : x ≡ y = cc in subst P same holds
ok-behind (Err e) s P Q y variant cases is holds = let none : is_ok s ≡ false = variant in let some : is_ok s ≡ true = ap is_ok is in absurd (cc)
