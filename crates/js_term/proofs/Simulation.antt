-- A hidden step leaves the plain image as it was, and any other contraction commutes with it: for any tables that commute.
use Rattle.std.specs.Prelude.{List, [], ◌∷◌, ◌++◌, Option, Some, None, Bool, true, false, cond, ◌&&◌, map, ◌≡◌, refl}
use Rattle.std.proofs.Common.{ap, sym, ◌∙◌, subst}
use Rattle.std.proofs.lemmas.List.{map-append}
use Rattle.js_value.specs.declared.value.Value.{Value}
use Rattle.js_value.specs.declared.value.Value.TheVariants.{Undefined}
use Rattle.js_value.specs.Image.{image}
use Rattle.js_heap.specs.World.{World}
use Rattle.js_term.specs.declared.context.Context.{Context}
use Rattle.js_term.specs.Completions.{plain_context}
use Rattle.js_term.specs.Term.{Hidden, Term, Terms, after, are_values, next, node, start}
use Rattle.js_term.specs.Term.Term.{Val, Stop, Node, Ready, Hold, Hook}
use Rattle.js_term.specs.Term.Terms.{Nil, Cons}
use Rattle.js_term.specs.Table.{Entry, Left, Step, Table}
use Rattle.js_term.specs.Table.Step.{Gives, Asks}
use Rattle.js_term.specs.Contraction.{Contraction, at_hold, at_hook, at_ready, at_rest, behind_apply, contract, first, page_step, within}
use Rattle.js_term.specs.Contraction.Contraction.{Ends, Stops, Steps, Questions}
use Rattle.js_term.specs.Images.{Agrees, Images, TablesCommute, plain, plain_step, plains}
use Rattle.js_term.specs.Images.Agrees.{Values, Completions, Pages, Hides, Same}
use Rattle.js_term.proofs.Readings.{after-snoc}

are_values-after : (R : Type 0) (done : List Value) → are_values {R = R} (after done Nil) ≡ true
are_values-after R [] = refl
are_values-after R (v ∷ vs) = are_values-after R vs

node_done : {R : Type 0} (no_step : R → Bool) (r : R) (ts : Terms R) → no_step r ≡ true → are_values ts ≡ true → node no_step r ts ≡ Val Undefined
node_done no_step r ts e f = rw (e, f) refl

module _ {R H : Type 0} (T P : Table R H) (I : Images R H) (L : TablesCommute T P I) where
  abbrev pd : Term R → Term R
  pd t = plain T P I t

  abbrev pds : Terms R → Terms R
  pds ts = plains T P I ts

  abbrev pw : World → World
  pw w = I.world w

  values-plain : (ts : Terms R) → are_values ts ≡ true → are_values (pds ts) ≡ true
  values-plain Nil e = refl
  values-plain (Cons (Val v) ts) e = values-plain ts e
  values-plain (Cons t ts) e = cc

  node-cases : (b d : Bool) (r : R) (ts : Terms R) → T.no_step r ≡ b → are_values ts ≡ d
      → pd (cond (b && d) (Val Undefined) (Node r ts)) ≡ node P.no_step (I.row r) (pds ts)
  node-cases true true r ts e f = sym (node_done P.no_step (I.row r) (pds ts) (L.no_step r ∙ e) (values-plain ts f))
  node-cases true false r ts e f = refl
  node-cases false d r ts e f = refl

  -- the image of a node is a node
  pub plain-node : (r : R) (ts : Terms R) → pd (node T.no_step r ts) ≡ node P.no_step (I.row r) (pds ts)
  plain-node r ts = node-cases (T.no_step r) (are_values ts) r ts refl refl

  plains-after : (vs : List Value) (ts : Terms R) → pds (after vs ts) ≡ after (map image vs) (pds ts)
  plains-after [] ts = refl
  plains-after (v ∷ vs) ts = ap (Cons (Val (image v))) (plains-after vs ts)

  -- in the plain table, a finished node and the same node written out come to the same
  first-values : (c : Context) (w : World) (h : H) (r : R) (done : List Value) (ts : Terms R) → P.no_step r ≡ true → are_values ts ≡ true
      → first P c w h r done ts ≡ Ends Undefined
  unfolding contract
  first-values c w h r done Nil e f = rw (L.plain_enters c w h r done, e) refl
  first-values c w h r done (Cons (Val v) ts) e f = rw (L.late r done e) (first-values c w h r (done ++ v ∷ []) ts e f)
  first-values c w h r done ts e f = cc

  contract-written : (c : Context) (w : World) (h : H) (b d : Bool) (r : R) (ts : Terms R) → P.no_step r ≡ b → are_values ts ≡ d
      → contract P c w h (cond (b && d) (Val Undefined) (Node r ts)) ≡ first P c w h r [] ts
  unfolding contract
  contract-written c w h true true r ts e f = sym (first-values c w h r [] ts e f)
  contract-written c w h true false r ts e f = refl
  contract-written c w h false d r ts e f = refl

  contract-of-node : (c : Context) (w : World) (h : H) (r : R) (ts : Terms R) → contract P c w h (node P.no_step r ts) ≡ first P c w h r [] ts
  contract-of-node c w h r ts = contract-written c w h (P.no_step r) (are_values ts) r ts refl refl

  abbrev agrees : Term R → World → H → Contraction R H → Contraction R H → Type 0
  agrees t w h o q = Agrees T P I (pd t) (pw w) (I.host h) o q

  -- a page row
  row_agrees : (p : Term R) (w : World) (h : H) (m n : Step R H) → n ≡ plain_step T P I m
      → Agrees T P I p (pw w) (I.host h) (page_step m) (page_step n)
  row_agrees p w h (Gives t v k) n e = rw e (Pages t v k)
  row_agrees p w h (Asks q) n e = rw e (Same q)

  -- a finished node's image
  pd_finished : (r : R) (done : List Value) → T.no_step r ≡ true → pd (Node r (after done Nil)) ≡ Val Undefined
  pd_finished r done e = node_done P.no_step (I.row r) (pds (after done Nil)) (L.no_step r ∙ e) (values-plain (after done Nil) (are_values-after R done))

  finished_agrees : (p : Term R) (w : World) (h : H) (m n : Contraction R H) (b d : Bool) → b ≡ true → d ≡ true → p ≡ Val Undefined
      → Agrees T P I p (pw w) (I.host h) (cond b (Ends Undefined) m) (cond d (Ends Undefined) n)
  finished_agrees p w h m n b d e f g = rw (e, f) (Values Undefined g)

  open_agrees : (p : Term R) (w : World) (h : H) (m n : Step R H) (b d : Bool) → b ≡ false → d ≡ false → n ≡ plain_step T P I m
      → Agrees T P I p (pw w) (I.host h) (cond b (Ends Undefined) (page_step m)) (cond d (Ends Undefined) (page_step n))
  open_agrees p w h m n b d e f g = rw (e, f) (row_agrees p w h m n g)

  rest_agrees : (c : Context) (w : World) (h : H) (r : R) (done : List Value) (o : Option Entry) (b : Bool) → T.enters c w h r done ≡ o → T.no_step r ≡ b
      → agrees (Node r (after done Nil)) w h (at_rest T c w h r done o) (at_rest P (plain_context c) (pw w) (I.host h) (I.row r) (map image done) None)
  rest_agrees c w h r done None true e f =
      finished_agrees _ w h _ _ (T.no_step r) (P.no_step (I.row r)) f (L.no_step r ∙ f) (pd_finished r done f)
  rest_agrees c w h r done None false e f =
      open_agrees _ w h (T.make c w h r done) (P.make (plain_context c) (pw w) (I.host h) (I.row r) (map image done)) (T.no_step r) (P.no_step (I.row r))
      f (L.no_step r ∙ f) (L.make c w h r done f e)
  rest_agrees c w h r done (Some n) b e f =
      Hides (Ready (start n.function) r n.values) w h _ (ap (λ vs. node P.no_step (I.row r) (after vs Nil)) (L.entry c w h r done n e) ∙ sym (ap (node P.no_step (I.row r)) (plains-after done Nil))) refl refl

  ready_held : (f g : Hidden) (r : R) (vs : List Value) → pd (Hold f (node T.no_step r (after vs Nil))) ≡ pd (Ready g r vs)
  ready_held f g r vs = plain-node r (after vs Nil) ∙ ap (node P.no_step (I.row r)) (plains-after vs Nil)

  ready_agrees : (w : World) (h : H) (f : Hidden) (r : R) (vs : List Value) (o : Option (Left H)) (q : Contraction R H) → T.before w h f r vs ≡ o
      → agrees (Ready f r vs) w h (at_ready T w h f r vs o) q
  ready_agrees w h f r vs (Some l) q e =
      let d = L.before w h f r vs l e in
      Hides (Ready (next f) r l.values) w l.host q (ap (λ us. node P.no_step (I.row r) (after us Nil)) d.0) refl d.1
  ready_agrees w h f r vs None q e = Hides (Hold (start f.function) (node T.no_step r (after vs Nil))) w h q (ready_held (start f.function) f r vs) refl refl

  behind_agrees : (p : Term R) (w : World) (h : H) (f : Hidden) (stopped : Bool) (t : Term R) (o : Option H) (q : Contraction R H)
      → T.behind h f stopped ≡ o → pd t ≡ p → Agrees T P I p (pw w) (I.host h) (behind_apply T w f t h o) q
  behind_agrees p w h f stopped t (Some k) q e g = Hides (Hold (next f) t) w k q g refl (L.behind h k f stopped e)
  behind_agrees p w h f stopped t None q e g = Hides t w h q g refl refl

  hold_agrees : (t : Term R) (w : World) (h : H) (f : Hidden) (o q : Contraction R H) → agrees t w h o q → agrees (Hold f t) w h (at_hold T w h f o) q
  hold_agrees t w h f o q (Values x e) = behind_agrees (pd t) w h f false (Val x) (T.behind h f false) _ refl (sym e)
  hold_agrees t w h f o q (Completions k e) = behind_agrees (pd t) w h f true (Stop k) (T.behind h f true) _ refl (sym e)
  hold_agrees t w h f o q (Pages u v k) = Pages (Hold f u) v k
  hold_agrees t w h f o q (Hides u v k z e d g) = Hides (Hold f u) v k _ e d g
  hold_agrees t w h f o q (Same n) = Same n

  hook_agrees : (t : Term R) (w : World) (h : H) (f : Hidden) (o : Option H) (q : Contraction R H) → T.behind h f false ≡ o
      → agrees (Hook f t) w h (at_hook T w h f t o) q
  hook_agrees t w h f (Some k) q e = Hides (Hook (next f) t) w k q refl refl (L.behind h k f false e)
  hook_agrees t w h f None q e = Hides t w h q refl refl refl

  -- a node one of whose operands comes to o
  operand_agrees : (c : Context) (w : World) (h : H) (r : R) (done : List Value) (t : Term R) (ts : Terms R) (o q : Contraction R H) → agrees t w h o q
      → ((v : Value) → agrees (Node r (after (done ++ v ∷ []) ts)) w h (first T c w h r (done ++ v ∷ []) ts) (first P (plain_context c) (pw w) (I.host h) (I.row r) (map image (done ++ v ∷ [])) (pds ts)))
      → agrees (Node r (after done (Cons t ts))) w h
      (elim o as (λ _. Contraction R H) [
        | Ends v ↦ first T c w h r (done ++ v ∷ []) ts
        | Stops k ↦ page_step (T.meets c w h r k)
        | Steps hidden u w' h' ↦ within T r done ts (Steps hidden u w' h')
        | Questions n ↦ Questions n
      ])
      (elim q as (λ _. Contraction R H) [
        | Ends v ↦ first P (plain_context c) (pw w) (I.host h) (I.row r) (map image done ++ v ∷ []) (pds ts)
        | Stops k ↦ page_step (P.meets (plain_context c) (pw w) (I.host h) (I.row r) k)
        | Steps hidden u w' h' ↦ within P (I.row r) (map image done) (pds ts) (Steps hidden u w' h')
        | Questions n ↦ Questions n
      ])
  operand_agrees c w h r done t ts o q (Values x e) rest =
      let same : pds (after (done ++ x ∷ []) ts) ≡ pds (after done (Cons t ts)) = ap (plains T P I) (after-snoc done x ts) ∙ (plains-after done (Cons (Val x) ts) ∙ (ap (λ u. after (map image done) (Cons u (pds ts))) (sym e) ∙ sym (plains-after done (Cons t ts)))) in
      rw (← same, ← map-append image done (x ∷ [])) (rest x)
  operand_agrees c w h r done t ts o q (Completions k e) rest = row_agrees _ w h (T.meets c w h r k) _ (L.meets c w h r k)
  operand_agrees c w h r done t ts o q (Pages u v k) rest =
      let same : pd (node T.no_step r (after done (Cons u ts))) ≡ node P.no_step (I.row r) (after (map image done) (Cons (pd u) (pds ts))) = plain-node r (after done (Cons u ts)) ∙ ap (node P.no_step (I.row r)) (plains-after done (Cons u ts)) in
      rw (← same) (Pages (node T.no_step r (after done (Cons u ts))) v k)
  operand_agrees c w h r done t ts o q (Hides u v k z e f g) rest =
      Hides (node T.no_step r (after done (Cons u ts))) v k _ (plain-node r (after done (Cons u ts)) ∙ ap (node P.no_step (I.row r)) (plains-after done (Cons u ts) ∙ (ap (λ x. after (map image done) (Cons x (pds ts))) e ∙ sym (plains-after done (Cons t ts))))) f g
  operand_agrees c w h r done t ts o q (Same n) rest = Same n

  -- the same of two on both sides gives one of both
  either_agrees : (p : Term R) (w : World) (h : H) (m o n q : Contraction R H) (b d : Bool) → d ≡ b
      → Agrees T P I p (pw w) (I.host h) m n → Agrees T P I p (pw w) (I.host h) o q
      → Agrees T P I p (pw w) (I.host h) (cond b m o) (cond d n q)
  either_agrees p w h m o n q true d e a z = rw e a
  either_agrees p w h m o n q false d e a z = rw e z

  -- what a term comes to has the image that its image comes to, and a hidden step leaves the image as it was
  mutual
    unfolding contract

    pub simulation : (c : Context) (w : World) (h : H) (t : Term R) → agrees t w h (contract T c w h t) (contract P (plain_context c) (pw w) (I.host h) (pd t))
    simulation c w h (Val v) = Values v refl
    simulation c w h (Stop k) = Completions k refl
    simulation c w h (Node r ts) = rw (contract-of-node (plain_context c) (pw w) (I.host h) (I.row r) (pds ts)) (simulation_first c w h r [] ts)
    simulation c w h (Ready f r vs) = ready_agrees w h f r vs (T.before w h f r vs) _ refl
    simulation c w h (Hold f t) = hold_agrees t w h f _ _ (simulation c w h t)
    simulation c w h (Hook f t) = hook_agrees t w h f (T.behind h f false) _ refl

    pub simulation_first : (c : Context) (w : World) (h : H) (r : R) (done : List Value) (ts : Terms R)
        → agrees (Node r (after done ts)) w h (first T c w h r done ts) (first P (plain_context c) (pw w) (I.host h) (I.row r) (map image done) (pds ts))
    simulation_first c w h r done Nil = rw (L.plain_enters (plain_context c) (pw w) (I.host h) (I.row r) (map image done)) (rest_agrees c w h r done (T.enters c w h r done) (T.no_step r) refl refl)
    simulation_first c w h r done (Cons t ts) =
        either_agrees _ w h (page_step (T.early c w h r done (Cons t ts))) _ _ _ (T.is_early r done) (P.is_early (I.row r) (map image done)) (L.is_early r done)
        (row_agrees _ w h (T.early c w h r done (Cons t ts)) (P.early (plain_context c) (pw w) (I.host h) (I.row r) (map image done) (pds (Cons t ts))) (sym (sym (L.early c w h r done (Cons t ts)))))
        (operand_agrees c w h r done t ts (contract T (T.inner r c) w h t) (contract P (P.inner (I.row r) (plain_context c)) (pw w) (I.host h) (pd t))
        (subst (λ z. agrees t w h (contract T (T.inner r c) w h t) (contract P z (pw w) (I.host h) (pd t))) (sym (L.inner r c)) (simulation (T.inner r c) w h t))
        (λ v. simulation_first c w h r (done ++ v ∷ []) ts))
