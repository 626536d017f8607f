-- What each row keeps, a contraction keeps.
use Rattle.std.specs.Prelude.{List, [], ◌∷◌, ◌++◌, Option, Some, None, Bool, true, false, cond, ◌&&◌, ◌≡◌, refl}
use Rattle.js_value.specs.declared.value.Value.{Value}
use Rattle.js_value.specs.declared.value.Value.TheVariants.{Undefined}
use Rattle.js_heap.specs.World.{World}
use Rattle.js_term.specs.declared.context.Context.{Context}
use Rattle.js_term.specs.Term.{Hidden, Term, Terms, after, are_values, node}
use Rattle.js_term.specs.Term.Term.{Val, Stop, Node, Ready, Hold, Hook}
use Rattle.js_term.specs.Term.Terms.{Nil, Cons}
use Rattle.js_term.specs.Table.{Entry, Left, Step, Table}
use Rattle.js_term.specs.Table.Step.{Gives, Asks}
use Rattle.js_term.specs.Contraction.{Contraction, at_hold, at_hook, at_ready, at_rest, behind_apply, contract, first, page_step, within}
use Rattle.js_term.specs.Contraction.Contraction.{Ends, Stops, Steps, Questions}
use Rattle.js_term.specs.Invariants.{ContractionHas, Each, Facts, StepHas, TableKeeps, TermHas, TermsHas}

module _ {R H : Type 0} (F : Facts R H) (T : Table R H) (L : TableKeeps F T) where
  abbrev Has : World → Term R → Type 0
  Has w t = TermHas F w t

  abbrev AllHave : World → Terms R → Type 0
  AllHave w ts = TermsHas F w ts

  abbrev Comes : World → Contraction R H → Type 0
  Comes w o = ContractionHas F w o

  abbrev Values : World → List Value → Type 0
  Values w vs = Each (F.value w) vs

  each-snoc : (w : World) (vs : List Value) (v : Value) → Values w vs → F.value w v → Values w (vs ++ v ∷ [])
  each-snoc w [] v a b = (b, tt)
  each-snoc w (u ∷ vs) v a b = (a.0, each-snoc w vs v a.1 b)

  each-later : (w w' : World) (vs : List Value) → F.later w w' → Values w vs → Values w' vs
  each-later w w' [] l a = tt
  each-later w w' (v ∷ vs) l a = (L.value w w' v l a.0, each-later w w' vs l a.1)

  mutual
    pub term-later : (w w' : World) (t : Term R) → F.later w w' → Has w t → Has w' t
    term-later w w' (Val v) l a = L.value w w' v l a
    term-later w w' (Stop k) l a = L.completion w w' k l a
    term-later w w' (Node r ts) l a = (L.row w w' r l a.0, terms-later w w' ts l a.1)
    term-later w w' (Ready f r vs) l a = (L.row w w' r l a.0, each-later w w' vs l a.1)
    term-later w w' (Hold f t) l a = term-later w w' t l a
    term-later w w' (Hook f t) l a = term-later w w' t l a

    terms-later : (w w' : World) (ts : Terms R) → F.later w w' → AllHave w ts → AllHave w' ts
    terms-later w w' Nil l a = tt
    terms-later w w' (Cons t ts) l a = (term-later w w' t l a.0, terms-later w w' ts l a.1)

  after-has : (w : World) (vs : List Value) (ts : Terms R) → Values w vs → AllHave w ts → AllHave w (after vs ts)
  after-has w [] ts a b = b
  after-has w (v ∷ vs) ts a b = (a.0, after-has w vs ts a.1 b)

  cond-has : (w : World) (b : Bool) (t : Term R) → Has w t → Has w (cond b (Val Undefined) t)
  cond-has w true t a = L.undefined w
  cond-has w false t a = a

  pub node-has : (w : World) (r : R) (ts : Terms R) → F.row w r → AllHave w ts → Has w (node T.no_step r ts)
  node-has w r ts q a = cond-has w (T.no_step r && are_values ts) (Node r ts) (q, a)

  page-has : (w : World) (m : Step R H) → StepHas F w m → Comes w (page_step m)
  page-has w (Gives t w' h') a = a
  page-has w (Asks q) a = tt

  rest-cases : (w : World) (b : Bool) (m : Step R H) → (b ≡ false → StepHas F w m) → Comes w (cond b (Ends Undefined) (page_step m))
  rest-cases w true m a = L.undefined w
  rest-cases w false m a = page-has w m (a refl)

  rest-has : (c : Context) (w : World) (h : H) (r : R) (vs : List Value) (o : Option Entry) → T.enters c w h r vs ≡ o
      → F.context w c → F.host w h → F.row w r → Values w vs → Comes w (at_rest T c w h r vs o)
  rest-has c w h r vs None e d a q b = rest-cases w (T.no_step r) (T.make c w h r vs) (λ f. L.make c w h r vs f e d a q b)
  rest-has c w h r vs (Some n) e d a q b = (L.same w, a, (q, L.entry c w h r vs n e b))

  ready-has : (w : World) (h : H) (f : Hidden) (r : R) (vs : List Value) (o : Option (Left H)) → T.before w h f r vs ≡ o
      → F.host w h → F.row w r → Values w vs → Comes w (at_ready T w h f r vs o)
  ready-has w h f r vs (Some l) e a q b = let d = L.before w h f r vs l e a b in (L.same w, d.0, (q, d.1))
  ready-has w h f r vs None e a q b = (L.same w, a, node-has w r (after vs Nil) q (after-has w vs Nil b tt))

  behind-has : (w : World) (h : H) (f : Hidden) (stopped : Bool) (t : Term R) (o : Option H) → T.behind h f stopped ≡ o
      → F.host w h → Has w t → Comes w (behind_apply T w f t h o)
  behind-has w h f stopped t (Some k) e a b = (L.same w, L.behind w h k f stopped e a, b)
  behind-has w h f stopped t None e a b = (L.same w, a, b)

  hold-has : (w : World) (h : H) (f : Hidden) (o : Contraction R H) → F.host w h → Comes w o → Comes w (at_hold T w h f o)
  hold-has w h f (Ends v) a b = behind-has w h f false (Val v) (T.behind h f false) refl a b
  hold-has w h f (Stops k) a b = behind-has w h f true (Stop k) (T.behind h f true) refl a b
  hold-has w h f (Steps hidden t w' h') a b = b
  hold-has w h f (Questions q) a b = tt

  hook-has : (w : World) (h : H) (f : Hidden) (t : Term R) (o : Option H) → T.behind h f false ≡ o
      → F.host w h → Has w t → Comes w (at_hook T w h f t o)
  hook-has w h f t (Some k) e a b = (L.same w, L.behind w h k f false e a, b)
  hook-has w h f t None e a b = (L.same w, a, b)

  operand-has : (c : Context) (w : World) (h : H) (r : R) (done : List Value) (ts : Terms R) (o : Contraction R H)
      → F.context w c → F.host w h → F.row w r → Values w done → AllHave w ts → Comes w o
      → ((v : Value) → F.value w v → Comes w (first T c w h r (done ++ v ∷ []) ts))
      → Comes w (elim o as (λ _. Contraction R H) [
        | Ends v ↦ first T c w h r (done ++ v ∷ []) ts
        | Stops k ↦ page_step (T.meets c w h r k)
        | Steps hidden u w' h' ↦ within T r done ts (Steps hidden u w' h')
        | Questions q ↦ Questions q
      ])
  operand-has c w h r done ts (Ends v) x a q b g d rest = rest v d
  operand-has c w h r done ts (Stops k) x a q b g d rest = page-has w (T.meets c w h r k) (L.meets c w h r k x a q d)
  operand-has c w h r done ts (Steps hidden u w' h') x a q b g d rest =
      (d.0, d.1, node-has w' r (after done (Cons u ts)) (L.row w w' r d.0 q) (after-has w' done (Cons u ts) (each-later w w' done d.0 b) (d.2, terms-later w w' ts d.0 g)))
  operand-has c w h r done ts (Questions n) x a q b g d rest = tt

  either-has : (w : World) (b : Bool) (m o : Contraction R H) → Comes w m → Comes w o → Comes w (cond b m o)
  either-has w true m o a z = a
  either-has w false m o a z = z

  mutual
    unfolding contract

    -- a contraction keeps what the rows keep
    pub contract-has : (c : Context) (w : World) (h : H) (t : Term R) → F.context w c → F.host w h → Has w t → Comes w (contract T c w h t)
    contract-has c w h (Val v) x a b = b
    contract-has c w h (Stop k) x a b = b
    contract-has c w h (Node r ts) x a b = first-has c w h r [] ts x a b.0 tt b.1
    contract-has c w h (Ready f r vs) x a b = ready-has w h f r vs (T.before w h f r vs) refl a b.0 b.1
    contract-has c w h (Hold f t) x a b = hold-has w h f (contract T c w h t) a (contract-has c w h t x a b)
    contract-has c w h (Hook f t) x a b = hook-has w h f t (T.behind h f false) refl a b

    pub first-has : (c : Context) (w : World) (h : H) (r : R) (done : List Value) (ts : Terms R)
        → F.context w c → F.host w h → F.row w r → Values w done → AllHave w ts → Comes w (first T c w h r done ts)
    first-has c w h r done Nil x a q b g = rest-has c w h r done (T.enters c w h r done) refl x a q b
    first-has c w h r done (Cons t ts) x a q b g =
        either-has w (T.is_early r done) _ _ (page-has w (T.early c w h r done (Cons t ts)) (L.early c w h r done (Cons t ts) x a q b g)) (operand-has c w h r done ts (contract T (T.inner r c) w h t) x a q b g.1 (contract-has (T.inner r c) w h t (L.inner w r c q x) a g.0)
        (λ v d. first-has c w h r (done ++ v ∷ []) ts x a q (each-snoc w done v b d) g.1))
