-- A contraction makes a step, or asks, exactly where something is due.
use Rattle.std.specs.Prelude.{◌≡◌, refl, List, [], ◌∷◌, ◌++◌, Bool, true, false, cond, Option, Some, None}
use Rattle.std.proofs.Common.{sym, subst}
use Rattle.js_value.specs.declared.value.Value.{Value}
use Rattle.js_value.specs.declared.value.Value.TheVariants.{Undefined}
use Rattle.js_heap.specs.World.{World}
use Rattle.js_term.specs.declared.completion.Completion.{Completion}
use Rattle.js_term.specs.declared.context.Context.{Context}
use Rattle.js_term.specs.Contraction.{Contraction, at_hold, at_hook, at_ready, at_rest, behind_apply, contract, first, hidden_step, page_step, within}
use Rattle.js_term.specs.Contraction.Contraction.{Ends, Stops, Steps, Questions}
use Rattle.js_term.specs.Due.{ComesTo, Due, Found, due, due_first, held}
use Rattle.js_term.specs.Due.Due.{Rests, Meets}
use Rattle.js_term.specs.Due.Found.{Value_found, Stop_found, Due_found}
use Rattle.js_term.specs.Frames.{is_due}
use Rattle.js_term.specs.Table.{Entry, Left, Step, Table}
use Rattle.js_term.specs.Table.Step.{Gives, Asks}
use Rattle.js_term.specs.Term.{Hidden, Term, Terms, node, after, start}
use Rattle.js_term.specs.Term.Term.{Val, Stop, Node, Ready, Hold, Hook}
use Rattle.js_term.specs.Term.Terms.{Nil, Cons}

never : (e : Entry) → Some e ≡ None → ⊥
never e g = cc

module _ {R H : Type 0} (T : Table R H) where
  page-due : (s : Step R H) → is_due (page_step s) ≡ true
  page-due (Gives t w h) = refl
  page-due (Asks q) = refl

  -- a node at rest, where a row without a step enters nothing
  rest-comes : (c : Context) (w : World) (h : H) (r : R) (vs : List Value) (b : Bool) (e : Option Entry) → T.no_step r ≡ b → (b ≡ true → e ≡ None)
      → ComesTo (cond b (Value_found Undefined) (Due_found (Rests r vs Nil))) (at_rest T c w h r vs e)
  rest-comes c w h r vs true (Some e) n f = absurd (never e (f refl))
  rest-comes c w h r vs true None n f = rw n refl
  rest-comes c w h r vs false (Some e) n f = refl
  rest-comes c w h r vs false None n f = rw n (page-due (T.make c w h r vs))

  ready-comes : (w : World) (h : H) (f : Hidden) (r : R) (vs : List Value) (l : Option (Left H)) → is_due (at_ready T w h f r vs l) ≡ true
  ready-comes w h f r vs (Some l) = refl
  ready-comes w h f r vs None = refl

  apply-comes : (w : World) (f : Hidden) (t : Term R) (h : H) (k : Option H) → is_due (behind_apply T w f t h k) ≡ true
  apply-comes w f t h (Some k) = refl
  apply-comes w f t h None = refl

  hook-comes : (w : World) (h : H) (f : Hidden) (t : Term R) (k : Option H) → is_due (at_hook T w h f t k) ≡ true
  hook-comes w h f t (Some k) = refl
  hook-comes w h f t None = refl

  hold-comes : (w : World) (h : H) (f : Hidden) (o : Found R) (k : Contraction R H) → ComesTo o k → ComesTo (held f o) (at_hold T w h f k)
  hold-comes w h f (Value_found v) k e = rw e (apply-comes w f (Val v) h (T.behind h f false))
  hold-comes w h f (Stop_found s) k e = rw e (apply-comes w f (Stop s) h (T.behind h f true))
  hold-comes w h f (Due_found d) (Ends v) e = cc
  hold-comes w h f (Due_found d) (Stops s) e = cc
  hold-comes w h f (Due_found d) (Steps hidden t w' h') e = refl
  hold-comes w h f (Due_found d) (Questions q) e = refl

  within-due : (r : R) (done : List Value) (ts : Terms R) (hidden : Bool) (t : Term R) (w : World) (h : H) → is_due (within T r done ts (Steps hidden t w h)) ≡ true
  within-due r done ts hidden t w h = refl

  -- what a node comes to, by what its next operand comes to
  abbrev operand_found : R → (Value → Found R) → Found R → Found R
  operand_found r rest o = elim o [
    | Value_found v ↦ rest v
    | Stop_found k ↦ Due_found (Meets r k)
    | Due_found d ↦ Due_found d
  ]

  abbrev operand_comes : Context → World → H → R → List Value → Terms R → (Value → Contraction R H) → Contraction R H → Contraction R H
  operand_comes c w h r done ts rest o = elim o [
    | Ends v ↦ rest v
    | Stops k ↦ page_step (T.meets c w h r k)
    | Steps hidden u w' h' ↦ within T r done ts (Steps hidden u w' h')
    | Questions q ↦ Questions q
  ]

  operand-agrees : (c : Context) (w : World) (h : H) (r : R) (done : List Value) (ts : Terms R) (f : Value → Found R) (g : Value → Contraction R H)
      → ((v : Value) → ComesTo (f v) (g v)) → (o : Found R) (k : Contraction R H) → ComesTo o k
      → ComesTo (operand_found r f o) (operand_comes c w h r done ts g k)
  operand-agrees c w h r done ts f g rest (Value_found v) k e = rw e (rest v)
  operand-agrees c w h r done ts f g rest (Stop_found s) k e = rw e (page-due (T.meets c w h r s))
  operand-agrees c w h r done ts f g rest (Due_found d) (Ends v) e = cc
  operand-agrees c w h r done ts f g rest (Due_found d) (Stops s) e = cc
  operand-agrees c w h r done ts f g rest (Due_found d) (Steps hidden u w' h') e = refl
  operand-agrees c w h r done ts f g rest (Due_found d) (Questions q) e = refl

  early-agrees : (b : Bool) (d : Due R) (s : Step R H) (o : Found R) (k : Contraction R H) → ComesTo o k
      → ComesTo (cond b (Due_found d) o) (cond b (page_step s) k)
  early-agrees true d s o k e = page-due s
  early-agrees false d s o k e = e

  module _ (free : (c : Context) (w : World) (h : H) (r : R) (vs : List Value) → T.no_step r ≡ true → T.enters c w h r vs ≡ None) where
    mutual
      unfolding due contract

      pub contract-comes : (c : Context) (w : World) (h : H) (t : Term R) → ComesTo (due T t) (contract T c w h t)
      contract-comes c w h (Val v) = refl
      contract-comes c w h (Stop k) = refl
      contract-comes c w h (Node r ts) = first-comes c w h r [] ts
      contract-comes c w h (Ready f r vs) = ready-comes w h f r vs (T.before w h f r vs)
      contract-comes c w h (Hold f t) = hold-comes w h f (due T t) (contract T c w h t) (contract-comes c w h t)
      contract-comes c w h (Hook f t) = hook-comes w h f t (T.behind h f false)

      first-comes : (c : Context) (w : World) (h : H) (r : R) (done : List Value) (ts : Terms R) → ComesTo (due_first T r done ts) (first T c w h r done ts)
      first-comes c w h r done Nil = rest-comes c w h r done (T.no_step r) (T.enters c w h r done) refl (free c w h r done)
      first-comes c w h r done (Cons t ts) =
          early-agrees (T.is_early r done) (Rests r done (Cons t ts)) (T.early c w h r done (Cons t ts)) _ _
          (operand-agrees c w h r done ts _ _ (λ v. first-comes c w h r (done ++ v ∷ []) ts) (due T t) (contract T (T.inner r c) w h t) (contract-comes (T.inner r c) w h t))
