-- Each row waits over the first of its operands, and an operator computes into its target.
use Rattle.std.proofs.Common.{◌≡◌, ℕ, suc, ◌≤◌, ◌==◌, Bool, true, false, List, [], ◌∷◌, ◌++◌}
use Rattle.std.proofs.Common.{Option, Some, None, if◌then◌else◌, drop, take, lit≤, refl, ap, subst, arith}
use Rattle.std.proofs.lemmas.Bool.Decides.{nat_tests}
use Rattle.js_value.specs.Image.{is_primitive, to_boolean}
use Rattle.js_value.specs.declared.value.Value.{Value}
use Rattle.js_value.specs.declared.value.Value.TheVariants as value
use Rattle.js_ops.specs.Convert.{is_missing, to_number, to_text}
use Rattle.js_ops.specs.declared.equality.Hint.{Hint}
use Rattle.js_ops.specs.declared.equality.Hint.TheVariants as hint
use Rattle.js_heap.specs.World.{World}
use Rattle.js_operations.specs.Literals.{array_literal, object_literal}
use Rattle.js_operations.specs.Operations.{operate, operation, operation_wants}
use Rattle.js_operations.specs.Unary.{unary_operate, unary_wants}
use Rattle.js_reference.specs.Callables.{native_of}
use Rattle.js_reference.specs.Deletes.{delete}
use Rattle.js_reference.specs.Errors.{Answer, next_object}
use Rattle.js_reference.specs.Names.{read_name, write_name}
use Rattle.js_reference.specs.Own.{OwnProperties}
use Rattle.js_reference.specs.Properties.{read}
use Rattle.js_reference.specs.Puts.{write}
use Rattle.js_reference.specs.Room.{objects_fit}
use Rattle.js_reference.specs.Functions.{objects_of_function, with_function}
use Rattle.js_reference.specs.declared.error.ErrorName.TheVariants.{RangeError, TypeError}
use Rattle.js_term.specs.declared.context.Context.{Context}
use Rattle.js_term.specs.Place.{Place}
use Rattle.js_tree.specs.Trees.{Tree}
use Rattle.js_operands.specs.Conversions.{conversion, convert, converting, first_wanted, hints, key_wanted, keyed, prepare, prepared, wanted_hint, wanted_or, wants_at}
use Rattle.js_operands.specs.Made.{Made}
use Rattle.js_operands.specs.Rows.{ExprRow}
use Rattle.js_operands.specs.Setting.{HostFacts}
use Rattle.js_operands.specs.Steps.{call_node, gives, goes_on, operand_at, throws, with_value}
use Rattle.js_operands.specs.declared.wants.Wanted.{Wanted}
use Rattle.js_operands.specs.declared.row.Side.{Side}
use Rattle.js_operands.specs.declared.wants.Wants.{Wants}
use Rattle.js_operands.specs.declared.wants.Wants.TheVariants as wants
use Rattle.js_tree.specs.declared.production.BinaryOperator.{BinaryOperator}
use Rattle.js_tree.specs.declared.production.UpdateOperator.{UpdateOperator}
use Rattle.js_control.specs.Calls.{call_with, new_with, on_window}
use Rattle.js_control.specs.Make.{expr_is_early}
use Rattle.js_control.specs.Operators.{operator_wants}
use Rattle.js_control.specs.Assignments.{computed}
use Rattle.js_control.specs.Literals.{code_at}
use Rattle.js_control.specs.Updates.{store_number, stored}
use Rattle.js_control.specs.Waits.{ComputesInto, RowsCompute, RowsWait, WaitsOver, target_count, waiting_row, waiting_values}

abbrev HasHint : (ℕ → Option Hint) → Wanted → Type 0
HasHint f k = (h : Hint) × (f k.place ≡ Some h)

place_of : Option Wanted → ℕ
place_of (Some k) = k.place
place_of None = 0

-- the place of a conversion that is wanted has a hint
hinted-choice : (f : ℕ → Option Hint) (n : ℕ) (h : Hint) (b : Bool) (k : Wanted)
    (rest : Option Wanted) → f n ≡ Some h → (rest ≡ Some k → HasHint f k)
    → wanted_or (if b then None else Some h) n rest ≡ Some k → HasHint f k
unfolding place_of
hinted-choice f n h true k rest is others e = others e
hinted-choice f n h false k rest is others e =
    let same : n ≡ k.place = ap place_of e in (h, subst (λ i. f i ≡ Some h) same is)

hinted-here : (f : ℕ → Option Hint) (n : ℕ) (v : Value) (j : Option Hint) (k : Wanted)
    (rest : Option Wanted) → f n ≡ j → (rest ≡ Some k → HasHint f k)
    → wanted_or (wanted_hint j v) n rest ≡ Some k → HasHint f k
hinted-here f n v None k rest is others e = others e
hinted-here f n v (Some h) k rest is others e =
    hinted-choice f n h (is_primitive v) k rest is others e

hinted : (f : ℕ → Option Hint) (n : ℕ) (vs : List Value) (k : Wanted)
    → first_wanted f n vs ≡ Some k → HasHint f k
hinted f n [] k e = cc
hinted f n (v ∷ vs) k e =
    hinted-here f n v (f n) k (first_wanted f (suc n) vs) refl (λ r. hinted f (suc n) vs k r) e

at-choice : (n i : ℕ) (j k : Option Hint) (h : Hint) (b d : Bool) → (i == n) ≡ b
    → (i == suc n) ≡ d → (if b then j else if d then k else None) ≡ Some h → n ≤ i
at-choice n i j k h true d p q e = grind (arith, nat_tests)
at-choice n i j k h false true p q e = grind (arith, nat_tests)
at-choice n i j k h false false p q e = cc

-- hints at two places are at none before them
at-least : (n i : ℕ) (j k : Option Hint) (h : Hint) → wants_at n j k i ≡ Some h → n ≤ i
at-least n i j k h e = at-choice n i j k h (i == n) (i == suc n) refl refl e

behind-target : (n : ℕ) (j k : Option Hint) (vs : List Value) (x : Wanted)
    → first_wanted (wants_at n j k) 0 vs ≡ Some x → n ≤ x.place
behind-target n j k vs x e =
    let found = hinted (wants_at n j k) 0 vs x e in at-least n x.place j k found.0 found.1

module _ {H : Type 0} (r : ExprRow) (vs : List Value) where
  abbrev Waits : Made H → Type 0
  Waits m = WaitsOver r vs m

  choice-waits : (b : Bool) (m n : Made H) → Waits m → Waits n → Waits (if b then m else n)
  choice-waits true m n a e = a
  choice-waits false m n a e = e

  gives-waits : (a : Answer H) → Waits (gives a)
  gives-waits (Answer.Returns v w h) = tt
  gives-waits (Answer.Throws v w h) = tt

  goes-waits : (next : Value → World → H → Made H)
      → ((v : Value) (w : World) (h : H) → Waits (next v w h)) → (a : Answer H)
      → Waits (goes_on next a)
  goes-waits next each (Answer.Returns v w h) = each v w h
  goes-waits next each (Answer.Throws v w h) = tt

  module _ (O : OwnProperties H) (w : World) (h : H) where
    module _ (was : ExprRow) (us : List Value) (row : was ≡ waiting_row r)
        (values : us ≡ waiting_values r vs)
        (late : (xs : List Value) → expr_is_early was xs ≡ false) where
      module _ (made : Made H) (waits : Waits made) where
        prepare-waits : (o : Option Wanted)
            → ((k : Wanted) → o ≡ Some k → target_count r ≤ k.place)
            → Waits (prepare O w h was us made o)
        prepare-waits None enough = waits
        prepare-waits (Some k) enough = record {
          row = row;
          count = k.place;
          enough = enough k refl;
          first = ap (take k.place) values;
          rest = ap (drop (suc k.place)) values;
          late = late;
        }

        pub prepared-waits : (f : ℕ → Option Hint)
            → ((k : Wanted) → first_wanted f 0 us ≡ Some k → target_count r ≤ k.place)
            → Waits (prepared O w h was f us made)
        prepared-waits f enough = prepare-waits (first_wanted f 0 us) enough

        -- of a member whose key is an operand
        keyed-waits : target_count r ≡ 0 → Waits (keyed O w h was us made)
        keyed-waits none =
            choice-waits (is_missing (operand_at us 0)) (throws TypeError w h)
            (prepared O w h was key_wanted us made) tt
            (prepared-waits key_wanted (λ k e. omega (arith, none)))

module _ {H : Type 0} (F : HostFacts H) where
  -- rows that convert none of their operands, or a key
  module _ (p : Place) (c : Context) (w : World) (h : H) (vs : List Value) where
    abbrev O : OwnProperties H
    O = F.own

    abbrev base : Value
    base = operand_at vs 0

    abbrev key : List ℕ
    key = to_text (operand_at vs 1)

    revised : (r next : ExprRow) (ts : List Tree) (a : Answer H)
        → WaitsOver r vs (goes_on (with_value next vs ts) a)
    revised r next ts a = goes-waits r vs (with_value next vs ts) (λ v w h. tt) a

    computes : (r next : ExprRow) (n : ℕ) (o : BinaryOperator) → r ≡ waiting_row r
        → vs ≡ waiting_values r vs → ((xs : List Value) → expr_is_early r xs ≡ false)
        → target_count r ≤ n → WaitsOver r vs (computed O w h r next n o vs)
    computes r next n o row values late few =
        let a : Value = operand_at vs n in
        let b : Value = operand_at vs (suc n) in
        let wants : ℕ → Option Hint = operation_wants (operation o) a b in
        prepared-waits r vs O w h r vs row values late
        (goes_on (with_value next (take n vs) []) (operate O w h (operation o) a b))
        (goes-waits r vs (with_value next (take n vs) []) (λ v w h. tt)
        (operate O w h (operation o) a b))
        (operator_wants n o a b)
        (λ k e. let more : n ≤ k.place = behind-target n (wants 0) (wants 1) vs k e in
        omega (arith, few, more))

    stores : (r : ExprRow) (n : ℕ) (u : UpdateOperator) (s : Side) (put : Value → Answer H)
        → r ≡ waiting_row r → vs ≡ waiting_values r vs
        → ((xs : List Value) → expr_is_early r xs ≡ false) → target_count r ≡ 0
        → WaitsOver r vs (stored O w h r n u s vs put)
    stores r n u s put row values late none =
        let number : Answer H = store_number w h put u s (to_number (operand_at vs n)) in
        prepared-waits r vs O w h r vs row values late (gives number)
        (gives-waits r vs number) (wants_at n (Some hint.Number) None)
        (λ k e. omega (arith, none))

    reads : (r : ExprRow) (made : Made H) → WaitsOver r vs made → r ≡ waiting_row r
        → vs ≡ waiting_values r vs → ((xs : List Value) → expr_is_early r xs ≡ false)
        → target_count r ≡ 0 → WaitsOver r vs (keyed O w h r vs made)
    reads r made waits row values late none =
        keyed-waits r vs O w h r vs row values late made waits none

    calls : (r was : ExprRow) (us : List Value) (of : Wants) (made : Made H)
        → WaitsOver r vs made → was ≡ waiting_row r → us ≡ waiting_values r vs
        → ((xs : List Value) → expr_is_early was xs ≡ false) → target_count r ≡ 0
        → WaitsOver r vs (prepared O w h was (hints F.wants of) us made)
    calls r was us of made waits row values late none =
        prepared-waits r vs O w h was us row values late made waits (hints F.wants of)
        (λ k e. omega (arith, none))

    operates : (r : ExprRow) (f : ℕ → Option Hint) (a : Answer H) → r ≡ waiting_row r
        → vs ≡ waiting_values r vs → ((xs : List Value) → expr_is_early r xs ≡ false)
        → target_count r ≡ 0 → WaitsOver r vs (prepared O w h r f vs (gives a))
    operates r f a row values late none =
        prepared-waits r vs O w h r vs row values late (gives a) (gives-waits r vs a) f
        (λ k e. omega (arith, none))

  pub rows-wait : RowsWait F
  rows-wait p c w h ExprRow.This vs = tt
  rows-wait p c w h (ExprRow.Name x) vs =
      gives-waits (ExprRow.Name x) vs (read_name F.own w h c.scope x)
  rows-wait p c w h (ExprRow.Array es) vs =
      gives-waits (ExprRow.Array es) vs (array_literal w h es vs)
  rows-wait p c w h (ExprRow.Object ks) vs =
      gives-waits (ExprRow.Object ks) vs (object_literal w h ks vs)
  rows-wait p c w h ExprRow.Function vs =
      choice-waits ExprRow.Function vs (objects_fit w objects_of_function)
      (Made.Gives (value.Ref (next_object w)) (with_function w (code_at p c)) h)
      (throws RangeError w h) tt tt
  rows-wait p c w h (ExprRow.Member k) vs =
      gives-waits (ExprRow.Member k) vs (read F.own w h (operand_at vs 0) k)
  rows-wait p c w h ExprRow.Index vs =
      let a : Answer H = read F.own w h (operand_at vs 0) (to_text (operand_at vs 1)) in
      reads p c w h vs ExprRow.Index (gives a) (gives-waits ExprRow.Index vs a) refl refl
      (λ xs. refl) refl
  rows-wait p c w h ExprRow.Call vs =
      let us : List Value = on_window vs in
      let f : Value = operand_at us 0 in
      calls p c w h vs ExprRow.Call ExprRow.CallOn us (wants.Call (native_of w f))
      (Made.Calls f (call_with (operand_at us 1) (drop 2 us)) w h) tt refl refl (λ xs. refl) refl
  rows-wait p c w h ExprRow.CallOn vs =
      let f : Value = operand_at vs 0 in
      calls p c w h vs ExprRow.CallOn ExprRow.CallOn vs (wants.Call (native_of w f))
      (Made.Calls f (call_with (operand_at vs 1) (drop 2 vs)) w h) tt refl refl (λ xs. refl) refl
  rows-wait p c w h (ExprRow.CallMember k xs) vs =
      let e : Value = operand_at vs 0 in
      goes-waits (ExprRow.CallMember k xs) vs (call_node xs e) (λ v w h. tt) (read F.own w h e k)
  rows-wait p c w h (ExprRow.CallIndex xs) vs =
      let e : Value = operand_at vs 0 in
      let a : Answer H = read F.own w h e (to_text (operand_at vs 1)) in
      reads p c w h vs (ExprRow.CallIndex xs) (goes_on (call_node xs e) a)
      (goes-waits (ExprRow.CallIndex xs) vs (call_node xs e) (λ v w h. tt) a) refl refl
      (λ xs. refl) refl
  rows-wait p c w h ExprRow.New vs =
      let f : Value = operand_at vs 0 in
      calls p c w h vs ExprRow.New ExprRow.New vs (wants.New (native_of w f))
      (Made.Calls f (new_with (drop 1 vs)) w h) tt refl refl (λ xs. refl) refl
  rows-wait p c w h (ExprRow.AssignName x) vs =
      gives-waits (ExprRow.AssignName x) vs (write_name F.own w h c.scope x (operand_at vs 0))
  rows-wait p c w h (ExprRow.AssignMember k) vs =
      gives-waits (ExprRow.AssignMember k) vs
      (write F.own w h (operand_at vs 0) k (operand_at vs 1))
  rows-wait p c w h ExprRow.AssignIndex vs =
      gives-waits ExprRow.AssignIndex vs
      (write F.own w h (operand_at vs 0) (to_text (operand_at vs 1)) (operand_at vs 2))
  rows-wait p c w h (ExprRow.ReviseName o x e) vs =
      revised p c w h vs (ExprRow.ReviseName o x e) (ExprRow.ComputeName o x) (e ∷ [])
      (read_name F.own w h c.scope x)
  rows-wait p c w h (ExprRow.ReviseMember o k e) vs =
      revised p c w h vs (ExprRow.ReviseMember o k e) (ExprRow.ComputeMember o k) (e ∷ [])
      (read F.own w h (operand_at vs 0) k)
  rows-wait p c w h (ExprRow.ReviseIndex o e) vs =
      let r : ExprRow = ExprRow.ReviseIndex o e in
      let next : ExprRow = ExprRow.ComputeIndex o in
      let a : Answer H = read F.own w h (operand_at vs 0) (to_text (operand_at vs 1)) in
      reads p c w h vs r (goes_on (with_value next vs (e ∷ [])) a)
      (revised p c w h vs r next (e ∷ []) a) refl refl (λ xs. refl) refl
  rows-wait p c w h (ExprRow.ComputeName o x) vs =
      computes p c w h vs (ExprRow.ComputeName o x) (ExprRow.AssignName x) 0 o refl refl
      (λ xs. refl) (lit≤ tt)
  rows-wait p c w h (ExprRow.ComputeMember o k) vs =
      computes p c w h vs (ExprRow.ComputeMember o k) (ExprRow.AssignMember k) 1 o refl refl
      (λ xs. refl) (lit≤ tt)
  rows-wait p c w h (ExprRow.ComputeIndex o) vs =
      computes p c w h vs (ExprRow.ComputeIndex o) ExprRow.AssignIndex 2 o refl refl
      (λ xs. refl) (lit≤ tt)
  rows-wait p c w h (ExprRow.UpdateName u s x) vs =
      revised p c w h vs (ExprRow.UpdateName u s x) (ExprRow.StoreName u s x) []
      (read_name F.own w h c.scope x)
  rows-wait p c w h (ExprRow.UpdateMember u s k) vs =
      revised p c w h vs (ExprRow.UpdateMember u s k) (ExprRow.StoreMember u s k) []
      (read F.own w h (operand_at vs 0) k)
  rows-wait p c w h (ExprRow.UpdateIndex u s) vs =
      let r : ExprRow = ExprRow.UpdateIndex u s in
      let next : ExprRow = ExprRow.StoreIndex u s in
      let a : Answer H = read F.own w h (operand_at vs 0) (to_text (operand_at vs 1)) in
      reads p c w h vs r (goes_on (with_value next vs []) a)
      (revised p c w h vs r next [] a) refl refl (λ xs. refl) refl
  rows-wait p c w h (ExprRow.StoreName u s x) vs =
      stores p c w h vs (ExprRow.StoreName u s x) 0 u s (write_name F.own w h c.scope x) refl refl
      (λ xs. refl) refl
  rows-wait p c w h (ExprRow.StoreMember u s k) vs =
      stores p c w h vs (ExprRow.StoreMember u s k) 1 u s (write F.own w h (operand_at vs 0) k)
      refl refl (λ xs. refl) refl
  rows-wait p c w h (ExprRow.StoreIndex u s) vs =
      stores p c w h vs (ExprRow.StoreIndex u s) 2 u s
      (write F.own w h (operand_at vs 0) (to_text (operand_at vs 1))) refl refl (λ xs. refl) refl
  rows-wait p c w h (ExprRow.TypeOfName x) vs = tt
  rows-wait p c w h (ExprRow.DeleteMember k) vs =
      gives-waits (ExprRow.DeleteMember k) vs (delete F.own w h (operand_at vs 0) k)
  rows-wait p c w h ExprRow.DeleteIndex vs =
      let a : Answer H = delete F.own w h (operand_at vs 0) (to_text (operand_at vs 1)) in
      reads p c w h vs ExprRow.DeleteIndex (gives a) (gives-waits ExprRow.DeleteIndex vs a) refl
      refl (λ xs. refl) refl
  rows-wait p c w h (ExprRow.Unary o) vs =
      operates p c w h vs (ExprRow.Unary o) (wants_at 0 (unary_wants o 0) None)
      (unary_operate w h o (operand_at vs 0)) refl refl (λ xs. refl) refl
  rows-wait p c w h (ExprRow.Binary o) vs =
      let a : Value = operand_at vs 0 in
      let b : Value = operand_at vs 1 in
      operates p c w h vs (ExprRow.Binary o) (operator_wants 0 o a b)
      (operate F.own w h (operation o) a b) refl refl (λ xs. refl) refl
  rows-wait p c w h (ExprRow.And e) vs =
      let a : Value = operand_at vs 0 in
      choice-waits (ExprRow.And e) vs (to_boolean a) (Made.Becomes e w h) (Made.Gives a w h) tt tt
  rows-wait p c w h (ExprRow.Or e) vs =
      let a : Value = operand_at vs 0 in
      choice-waits (ExprRow.Or e) vs (to_boolean a) (Made.Gives a w h) (Made.Becomes e w h) tt tt
  rows-wait p c w h (ExprRow.Conditional t u) vs =
      choice-waits (ExprRow.Conditional t u) vs (to_boolean (operand_at vs 0))
      (Made.Becomes t w h) (Made.Becomes u w h) tt tt
  rows-wait p c w h (ExprRow.Comma e) vs = tt
  rows-wait p c w h (ExprRow.Convert k) vs =
      let v : Value = operand_at vs 0 in
      choice-waits (ExprRow.Convert k) vs (is_primitive v) (Made.Gives v w h)
      (converting w h (convert F.own w h k v)) tt tt
  rows-wait p c w h (ExprRow.Converting ms) vs =
      let a : Value = operand_at vs 1 in
      choice-waits (ExprRow.Converting ms) vs (is_primitive a) (Made.Gives a w h)
      (converting w h (conversion F.own w h (operand_at vs 0) ms)) tt tt

  module _ (n : ℕ) (row next : ExprRow) (o : BinaryOperator) (w : World) (h : H)
      (vs : List Value) where
    abbrev left : Value
    left = operand_at vs n

    abbrev right : Value
    right = operand_at vs (suc n)

    answer-computes : (a : Answer H)
        → ComputesInto n next vs (goes_on (with_value next (take n vs) []) a)
    answer-computes (Answer.Returns v w h) = record { row = refl; value = v; behind = refl }
    answer-computes (Answer.Throws v w h) = tt

    prepare-computes : (made : Made H) → ComputesInto n next vs made → (x : Option Wanted)
        → ComputesInto n next vs (prepare F.own w h row vs made x)
    prepare-computes made is None = is
    prepare-computes made is (Some k) = tt

    computed-into : ComputesInto n next vs (computed F.own w h row next n o vs)
    computed-into =
        let a : Answer H = operate F.own w h (operation o) left right in
        prepare-computes (goes_on (with_value next (take n vs) []) a) (answer-computes a)
        (first_wanted (operator_wants n o left right) 0 vs)

  pub rows-compute : RowsCompute F
  rows-compute = record {
    member = λ p c w h o k vs.
        computed-into 1 (ExprRow.ComputeMember o k) (ExprRow.AssignMember k) o w h vs;
    key = λ p c w h o vs. computed-into 2 (ExprRow.ComputeIndex o) ExprRow.AssignIndex o w h vs;
  }
