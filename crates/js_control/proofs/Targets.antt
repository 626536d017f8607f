-- That targets are read where `op=` goes on, and that requests look at no place.
use Rattle.std.proofs.Common.{◌≡◌, ℕ, ◌<◌, Bool, true, false, List, [], ◌∷◌, ◌++◌, Option, Some, None, if◌then◌else◌, length, refl, ap, sym, ◌∙◌, arith}
use Rattle.std.specs.Prelude.{unwrap_or}
use Rattle.js_value.specs.Image.{is_primitive}
use Rattle.js_value.specs.declared.value.Value.{Value}
use Rattle.js_value.specs.declared.value.Value.TheVariants as value
use Rattle.js_ops.specs.Convert.{is_missing, to_text}
use Rattle.js_ops.specs.declared.equality.Hint.TheVariants as hint
use Rattle.js_heap.specs.World.{World}
use Rattle.js_reference.specs.Errors.{Answer, thrown}
use Rattle.js_reference.specs.Own.{OwnProperties}
use Rattle.js_reference.specs.Properties.{property, read}
use Rattle.js_reference.specs.declared.error.ErrorName.TheVariants.{TypeError}
use Rattle.js_tree.specs.Trees.{Tree}
use Rattle.js_operands.specs.Conversions.{first_wanted, key_wanted, keyed, prepare, prepared, wanted_or}
use Rattle.js_operands.specs.Made.{Made}
use Rattle.js_operands.specs.Rows.{ExprRow}
use Rattle.js_operands.specs.Setting.{HostFacts}
use Rattle.js_operands.specs.Steps.{goes_on, operand_at, throws, with_value}
use Rattle.js_operands.specs.declared.wants.Wanted.{Wanted}
use Rattle.js_control.specs.Targets.{HasNoPlace, IsKeyRead, IsMemberRead, IsRead, KeysAreRead, MembersAreRead, RequestsHaveNoPlace}

-- a value behind others changes none of them
first_stays : (vs : List Value) (v : Value) → is_missing (operand_at vs 0) ≡ false → is_missing (operand_at (vs ++ v ∷ []) 0) ≡ false
first_stays [] v e = cc
first_stays (x ∷ vs) v e = e

second_stays : (vs : List Value) (v : Value) → 1 < length vs → operand_at (vs ++ v ∷ []) 1 ≡ operand_at vs 1
second_stays [] v l = absurd (omega (arith, l))
second_stays (x ∷ []) v l = absurd (omega (arith, l))
second_stays (x ∷ y ∷ vs) v l = refl

is_read : (vs us : List Value) (v : Value) → is_missing (operand_at vs 0) ≡ false → us ≡ vs ++ v ∷ [] → IsRead vs us
is_read vs us v there is = record {
  base = ap (λ xs. is_missing (operand_at xs 0)) is ∙ first_stays vs v there;
  value = v;
  behind = is;
}

-- a key that isn't to be converted is a primitive value
key_primitive : (b : Bool) (others : Option Wanted) → wanted_or (if b then None else Some hint.Text) 1 others ≡ None → b ≡ true
key_primitive true others e = refl
key_primitive false others e = cc

no_key_wanted : (vs : List Value) → first_wanted key_wanted 0 vs ≡ None → is_primitive (operand_at vs 1) ≡ true
no_key_wanted [] e = refl
no_key_wanted (b ∷ []) e = refl
no_key_wanted (b ∷ k ∷ vs) e = key_primitive (is_primitive k) (first_wanted key_wanted 2 vs) e

-- next: that of the node behind the step. rest: the parts of the text to come then.
module _ {H : Type 0} (O : OwnProperties H) (w w' : World) (h h' : H) (next r : ExprRow) (vs us : List Value) (rest ts : List Tree) where
  -- the base is there and its value is behind the operands
  record IsOn : Type 0 where
    there : is_missing (operand_at vs 0) ≡ false
    is : r ≡ next
    found : Value
    behind : us ≡ vs ++ found ∷ []

  read_on : (b : Bool) (v : Value) → is_missing (operand_at vs 0) ≡ b → goes_on (with_value next vs rest) (if b then thrown TypeError w h else Answer.Returns v w h) ≡ Made.GoesOn r us ts w' h' → IsOn
  read_on true v m e = cc
  read_on false v m e = record { there = m; is = cc; found = v; behind = cc }

  member_on : (k : List ℕ) → goes_on (with_value next vs rest) (read O w h (operand_at vs 0) k) ≡ Made.GoesOn r us ts w' h' → IsOn
  member_on k e = read_on (is_missing (operand_at vs 0)) (unwrap_or (property O w h (operand_at vs 0) k) value.Undefined) refl e

  prepare_on : (was : ExprRow) (made : Made H) (o : Option Wanted) → prepare O w h was vs made o ≡ Made.GoesOn r us ts w' h' → (o ≡ None) × (made ≡ Made.GoesOn r us ts w' h')
  prepare_on was made None e = (refl, e)
  prepare_on was made (Some k) e = cc

  keyed_on : (was : ExprRow) (made : Made H) (b : Bool) → (if b then throws TypeError w h else prepared O w h was key_wanted vs made) ≡ Made.GoesOn r us ts w' h'
      → (first_wanted key_wanted 0 vs ≡ None) × (made ≡ Made.GoesOn r us ts w' h')
  keyed_on was made true e = cc
  keyed_on was made false e = prepare_on was made (first_wanted key_wanted 0 vs) e

module _ {H : Type 0} (F : HostFacts H) where
  pub members-read : MembersAreRead F
  members-read p c w w' h h' o k right r vs us ts e =
      let on = member_on F.own w w' h h' (ExprRow.ComputeMember o k) r vs us (right ∷ []) ts k e in
      record { row = on.is; target = is_read vs us on.found on.there on.behind }

  pub keys-read : KeysAreRead F
  keys-read p c w w' h h' o right r vs us ts e =
      let row : ExprRow = ExprRow.ComputeIndex o in
      let key : List ℕ = to_text (operand_at vs 1) in
      let made : Made H = goes_on (with_value row vs (right ∷ [])) (read F.own w h (operand_at vs 0) key) in
      let past = keyed_on F.own w w' h h' row r vs us (right ∷ []) ts (ExprRow.ReviseIndex o right) made (is_missing (operand_at vs 0)) e in
      let on = member_on F.own w w' h h' row r vs us (right ∷ []) ts key past.1 in
      record {
        row = on.is;
        target = is_read vs us on.found on.there on.behind;
        key = λ l. ap (λ xs. is_primitive (operand_at xs 1)) on.behind
            ∙ ap is_primitive (second_stays vs on.found l) ∙ no_key_wanted vs past.0;
      }

  pub no_places : RequestsHaveNoPlace F
  no_places = record {
    convert = λ k p q c d w h vs. refl;
    converting = λ ms p q c d w h vs. refl;
    call = λ p q c d w h vs. refl;
  }
