-- Operands that are converted, and a frame that waits for one.
use Rattle.std.proofs.Common.{◌≡◌, ℕ, zero, suc, ◌≤◌, ◌<◌, ◌+◌, Bool, true, false, List, [], ◌∷◌, ◌++◌, Option, Some, None, Result, Ok, Err, IfOk, OnOk, inl, inr, if◌then◌else◌, length, map, slice_get, take, drop, refl, ap, sym, ◌∙◌, subst, append_assoc, arith}
use Rattle.std.proofs.lemmas.Bool.{cases_lt}
use Rattle.js_value.specs.Image.{IsPrimitive, is_primitive}
use Rattle.js_value.specs.declared.value.Value.{Value}
use Rattle.js_ops.specs.declared.equality.Hint.{Hint}
use Rattle.js_heap.specs.Closed.{IsThere}
use Rattle.js_heap.specs.World.{World}
use Rattle.js_host.proofs.Lists.{each-append, each-left}
use Rattle.js_host.specs.Names.{option_names}
use Rattle.js_host.specs.There.{AreThere}
use Rattle.js_reference.proofs.There.{still_there}
use Rattle.js_reference.specs.Later.{IsLater}
use Rattle.js_term.specs.Evaluation.{Evaluation, again}
use Rattle.js_term.specs.declared.operands.Operand.{Operand}
use Rattle.js_term.specs.declared.operands.Operand.TheVariants as operand
use Rattle.js_operands.specs.Conversions.{after_conversion, converts, first_wanted, wanted_hint, wanted_or}
use Rattle.js_operands.specs.ExprMoves.{conversion_names, operand_names, values_coming}
use Rattle.js_operands.specs.Made as spec
use Rattle.js_operands.specs.Made.{Made}
use Rattle.js_operands.specs.Rows.{ExprRow}
use Rattle.js_operands.specs.Shapes.{IsWaiting}
use Rattle.js_operands.specs.Steps.{operand_at}
use Rattle.js_operands.specs.declared.expr_move.Conversion.{Conversion}
use Rattle.js_operands.specs.declared.expr_move.Conversion.TheVariants as conversion

-- an operand, and those behind it
pub split_at : (vs : List Value) (n : ℕ) → n < length vs → drop n vs ≡ operand_at vs n ∷ drop (suc n) vs
split_at [] n l = absurd (omega (arith, l))
split_at (v ∷ vs) zero l = refl
split_at (v ∷ vs) (suc n) l = split_at vs n (omega (arith, l))

pub none_from : (vs : List Value) (n : ℕ) → length vs ≤ n → drop n vs ≡ []
none_from [] zero l = refl
none_from [] (suc n) l = refl
none_from (v ∷ vs) zero l = absurd (omega (arith, l))
none_from (v ∷ vs) (suc n) l = none_from vs n (omega (arith, l))

hint_none : (o : Option Hint) (v : Value) (k : Hint) (b : Bool) → is_primitive v ≡ b → wanted_hint o v ≡ None → o ≡ Some k → b ≡ true
hint_none o v k true p e i = refl
hint_none o v k false p e i =
    let there : wanted_hint o v ≡ Some k = ap (λ x. wanted_hint x v) i ∙ ap (λ (c : Bool). if c then None else Some k) p in
    cc

beyond : (vs : List Value) (n : ℕ) → length vs ≤ n → is_primitive (operand_at vs n) ≡ true
beyond [] n l = refl
beyond (v ∷ vs) zero l = absurd (omega (arith, l))
beyond (v ∷ vs) (suc n) l = beyond vs n (omega (arith, l))

module _ (f : ℕ → Option Hint) where
  found_at : (n : ℕ) (vs : List Value) → n < length vs → first_wanted f n (drop n vs) ≡ wanted_or (wanted_hint (f n) (operand_at vs n)) n (first_wanted f (suc n) (drop (suc n) vs))
  found_at n vs l = ap (first_wanted f n) (split_at vs n l)

  -- an operand that isn't to be converted is passed over
  pub past_wanted : (n : ℕ) (vs : List Value) → n < length vs → wanted_hint (f n) (operand_at vs n) ≡ None → first_wanted f n (drop n vs) ≡ first_wanted f (n + 1) (drop (n + 1) vs)
  past_wanted n vs l e =
      let rest = first_wanted f (suc n) (drop (suc n) vs) in
      let one : suc n ≡ n + 1 = omega arith in
      found_at n vs l ∙ ap (λ o. wanted_or o n rest) e ∙ ap (λ k. first_wanted f k (drop k vs)) one

  -- one that is to be converted is it
  pub is_wanted : (n : ℕ) (vs : List Value) (k : Hint) → n < length vs → wanted_hint (f n) (operand_at vs n) ≡ Some k → first_wanted f n (drop n vs) ≡ Some (record { place = n; by = k })
  is_wanted n vs k l e = found_at n vs l ∙ ap (λ o. wanted_or o n (first_wanted f (suc n) (drop (suc n) vs))) e

  -- one more operand is converted
  pub one_more : (vs : List Value) (m : ℕ) → wanted_hint (f m) (operand_at vs m) ≡ None → ((n : ℕ) (k : Hint) → n < m → f n ≡ Some k → IsPrimitive (operand_at vs n))
      → (n : ℕ) (k : Hint) → n < m + 1 → f n ≡ Some k → IsPrimitive (operand_at vs n)
  one_more vs m e below n k l i =
      elim (cases_lt n m) [
        | inl h ↦ below n k h i
        | inr h ↦
            let same : n ≡ m = omega (arith, l, h) in
            hint_none (f n) (operand_at vs n) k (is_primitive (operand_at vs n)) refl (subst (λ x. wanted_hint (f x) (operand_at vs x) ≡ None) (sym same) e) i
      ]

  -- all are
  pub all_converted : (vs : List Value) (m : ℕ) → length vs ≤ m → ((n : ℕ) (k : Hint) → n < m → f n ≡ Some k → IsPrimitive (operand_at vs n))
      → (n : ℕ) (k : Hint) → f n ≡ Some k → IsPrimitive (operand_at vs n)
  all_converted vs m l below n k i =
      elim (cases_lt n m) [
        | inl h ↦ below n k h i
        | inr h ↦ beyond vs n (omega (arith, l, h))
      ]

-- values among operands to come
values_before : (vs : List Value) (xs : List Operand) → values_coming (map operand.Value vs ++ xs) ≡ vs ++ values_coming xs
values_before [] xs = refl
values_before (v ∷ vs) xs = ap (λ us. v ∷ us) (values_before vs xs)

no_more : (vs : List Value) → vs ++ [] ≡ vs
no_more [] = refl
no_more (v ∷ vs) = ap (λ us. v ∷ us) (no_more vs)

take_drop : (n : ℕ) (vs : List Value) → take n vs ++ drop n vs ≡ vs
take_drop zero vs = refl
take_drop (suc n) [] = refl
take_drop (suc n) (v ∷ vs) = ap (λ us. v ∷ us) (take_drop n vs)

-- behind the operand for which a frame waits there are the others
pub coming_behind : (n : ℕ) (e : Evaluation) → n < length e.done → values_coming e.todo ≡ [] → values_coming (drop 1 (again n e).todo) ≡ drop (suc n) e.done
coming_behind n e l c =
    let rest : List Value = drop (suc n) e.done in
    let again_rest : values_coming (map operand.Value rest ++ e.todo) ≡ rest ++ values_coming e.todo = values_before rest e.todo in
    ap (λ vs. values_coming (drop 1 (map operand.Value vs ++ e.todo))) (split_at e.done n l)
    ∙ again_rest ∙ ap (λ us. rest ++ us) c ∙ no_more rest

-- that operand comes again, and those behind it
pub waits_again : (n : ℕ) (e e' d : Evaluation) → n < length e.done → e' ≡ again n e → d.todo ≡ e.todo → IsWaiting d e'
waits_again n e e' d l is same = record {
  first = operand_at e.done n;
  others = drop (suc n) e.done;
  coming = ap (λ x. x.todo) is ∙ ap (λ vs. map operand.Value vs ++ e.todo) (split_at e.done n l)
      ∙ ap (λ xs. map operand.Value (operand_at e.done n ∷ drop (suc n) e.done) ++ xs) (sym same);
}

-- a frame that waits for one of its operands names what it named
pub names_again : (n : ℕ) (e : Evaluation) (hs : List Value) → operand_names (again n e) hs ≡ operand_names e hs
names_again n e hs =
    let coming : List Value = values_coming e.todo in
    let back : values_coming (map operand.Value (drop n e.done) ++ e.todo) ≡ drop n e.done ++ coming = values_before (drop n e.done) e.todo in
    let all : take n e.done ++ (drop n e.done ++ coming) ≡ e.done ++ coming = sym (append_assoc (take n e.done) (drop n e.done) coming) ∙ ap (λ us. us ++ coming) (take_drop n e.done) in
    ap (λ us. us ++ hs) (ap (λ us. take n e.done ++ us) back ∙ all)

-- a conversion behind its first step, with what the frame names
pub conversion_there : {E : Type 0} (r : Result Conversion E) (w w' : World) (vs hs : List Value) → AreThere w (vs ++ hs) → OnOk r (IsLater w w') → IfOk r (λ k. AreThere w' (conversion_names k hs)) → IfOk r (λ k. AreThere w' (conversion_names k (vs ++ hs)))
conversion_there (Ok (conversion.Fails v)) w w' vs hs a l b = (b.0, each-append (IsThere w') vs hs (still_there w w' vs l.objects (each-left (IsThere w) vs hs a)) b.1)
conversion_there (Ok (conversion.Tries v f m)) w w' vs hs a l b = (b.0, (b.1.0, each-append (IsThere w') vs hs (still_there w w' vs l.objects (each-left (IsThere w) vs hs a)) b.1.1))
conversion_there (Err e) w w' vs hs a l b = tt

pub conversion_named : (k : Conversion) (w w' : World) (vs hs : List Value) → AreThere w (vs ++ hs) → IsLater w w' → AreThere w' (conversion_names k hs) → AreThere w' (conversion_names k (vs ++ hs))
conversion_named (conversion.Fails v) w w' vs hs a l b = (b.0, each-append (IsThere w') vs hs (still_there w w' vs l.objects (each-left (IsThere w) vs hs a)) b.1)
conversion_named (conversion.Tries v f m) w w' vs hs a l b = (b.0, (b.1.0, each-append (IsThere w') vs hs (still_there w w' vs l.objects (each-left (IsThere w) vs hs a)) b.1.1))

-- what a frame that waits for a conversion makes
pub waits : {H : Type 0} (w w' : World) (h : H) (r : ExprRow) (n : ℕ) (e e' : Evaluation) (k j : spec.Conversion) → n < length e.done → values_coming e.todo ≡ [] → e' ≡ again n e → j ≡ k → w' ≡ after_conversion w j
    → converts w h r (take n e.done) (drop (suc n) e.done) k ≡ Made.Converts r e'.done j (values_coming (drop 1 e'.todo)) w' h
waits w w' h r n e e' k j l c f g a =
    let done : e'.done ≡ take n e.done = ap (λ x. x.done) f in
    let behind : values_coming (drop 1 e'.todo) ≡ drop (suc n) e.done = ap (λ x. values_coming (drop 1 x.todo)) f ∙ coming_behind n e l c in
    let after : w' ≡ after_conversion w k = a ∙ ap (after_conversion w) g in
    cc

-- and what it names
pub waits_there : (k : Conversion) (w w' : World) (n : ℕ) (e e' : Evaluation) (hs : List Value) → e' ≡ again n e → AreThere w (operand_names e hs) → IsLater w w' → AreThere w' (conversion_names k hs) → AreThere w' (conversion_names k (operand_names e' hs))
waits_there k w w' n e e' hs f a l b =
    let same : operand_names e' hs ≡ operand_names e hs = ap (λ x. operand_names x hs) f ∙ names_again n e hs in
    let named = conversion_named k w w' (e.done ++ values_coming e.todo) hs a l b in
    let P : List Value → Type 0 = λ us. AreThere w' (conversion_names k us) in
    subst P (sym same) named

take_none : (n : ℕ) → take {A = Value} n [] ≡ []
take_none zero = refl
take_none (suc n) = refl

drop_none : (n : ℕ) → drop {A = Value} n [] ≡ []
drop_none zero = refl
drop_none (suc n) = refl

-- the values up to a place, and from a place on, by the value there
pub up_to : (vs : List Value) (n : ℕ) → take n vs ++ option_names (slice_get vs n) [] ≡ take (n + 1) vs
up_to [] zero = refl
up_to [] (suc n) = sym (take_none (suc n + 1))
up_to (v ∷ vs) zero = refl
up_to (v ∷ vs) (suc n) =
    let one : suc (n + 1) ≡ suc n + 1 = omega arith in
    ap (λ us. v ∷ us) (up_to vs n) ∙ ap (λ k. take k (v ∷ vs)) one

pub from_on : (vs : List Value) (n : ℕ) → drop n vs ≡ option_names (slice_get vs n) [] ++ drop (n + 1) vs
from_on [] zero = refl
from_on [] (suc n) = sym (drop_none (suc n + 1))
from_on (v ∷ vs) zero = refl
from_on (v ∷ vs) (suc n) =
    let one : suc (n + 1) ≡ suc n + 1 = omega arith in
    from_on vs n ∙ ap (λ k. option_names (slice_get vs n) [] ++ drop k (v ∷ vs)) one

pub more_from : (us vs : List Value) (n : ℕ) (all : List Value) → us ++ drop n vs ≡ all → (us ++ option_names (slice_get vs n) []) ++ drop (n + 1) vs ≡ all
more_from us vs n all e =
    let split : us ++ (option_names (slice_get vs n) [] ++ drop (n + 1) vs) ≡ us ++ drop n vs = ap (λ xs. us ++ xs) (sym (from_on vs n)) in
    append_assoc us (option_names (slice_get vs n) []) (drop (n + 1) vs) ∙ split ∙ e
