-- One contraction of what a stack stands for is one at its top.
use Rattle.std.specs.Prelude.{List, [], ◌∷◌, ◌++◌, Bool, true, false, cond, not, ◌&&◌, ◌≡◌, refl}
use Rattle.std.proofs.Common.{ap, sym, ◌∙◌, append_assoc}
use Rattle.std.proofs.lemmas.List.{append-nil}
use Rattle.js_value.specs.declared.value.Value.{Value}
use Rattle.js_value.specs.declared.value.Value.TheVariants.{Undefined}
use Rattle.js_heap.specs.World.{World}
use Rattle.js_term.specs.declared.completion.Completion.{Completion}
use Rattle.js_term.specs.declared.context.Context.{Context}
use Rattle.js_term.specs.Term.{Hidden, Term, Terms, after, are_values, is_value, node, terms}
use Rattle.js_term.specs.Term.Term.{Val, Stop, Node, Ready, Hold, Hook}
use Rattle.js_term.specs.Term.Terms.{Nil, Cons}
use Rattle.js_term.specs.Table.{Table}
use Rattle.js_term.specs.Contraction.{Contraction, at_hold, at_rest, contract, first, page_step, within}
use Rattle.js_term.specs.Contraction.Contraction.{Ends, Stops, Steps, Questions}
use Rattle.js_term.specs.Frames.{AreSettled, Frame, IsSettled, around, carried, context_at, frame_context, is_due, passes, reading}
use Rattle.js_term.specs.Frames.Frame.{Waiting, Applying}

pub after-snoc : {R : Type 0} (vs : List Value) (v : Value) (ts : Terms R) → after (vs ++ v ∷ []) ts ≡ after vs (Cons (Val v) ts)
after-snoc [] v ts = refl
after-snoc (u ∷ vs) v ts = ap (Cons (Val u)) (after-snoc vs v ts)

module _ {R X : Type 0} (no_step : R → Bool) (term : R → X → Term R) where
  pub reading-push : (fs : List (Frame R X)) (f : Frame R X) (t : Term R)
      → reading no_step term (fs ++ f ∷ []) t ≡ reading no_step term fs (around no_step term f t)
  reading-push [] f t = refl
  reading-push (g ∷ fs) f t = ap (around no_step term g) (reading-push fs f t)

pub context_at-push : {R X H : Type 0} (T : Table R H) (fs : List (Frame R X)) (f : Frame R X) (c : Context)
    → context_at T (fs ++ f ∷ []) c ≡ frame_context T f (context_at T fs c)
context_at-push T [] f c = refl
context_at-push T (g ∷ fs) f c = context_at-push T fs f (frame_context T g c)

module _ {R H : Type 0} (T : Table R H) where
  no_value : (c : Context) (w : World) (h : H) (t : Term R) → is_due (contract T c w h t) ≡ true → is_value t ≡ false
  unfolding contract
  no_value c w h (Val v) e = cc
  no_value c w h (Stop k) e = refl
  no_value c w h (Node r ts) e = refl
  no_value c w h (Ready f r vs) e = refl
  no_value c w h (Hold f t) e = refl
  no_value c w h (Hook f t) e = refl

  no_values : (done : List Value) (t : Term R) (ts : Terms R) → is_value t ≡ false → are_values (after done (Cons t ts)) ≡ false
  no_values [] t ts e = ap (λ b. b && are_values ts) e
  no_values (v ∷ done) t ts e = no_values done t ts e

  and_false : (a b : Bool) → b ≡ false → (a && b) ≡ false
  and_false true b e = e
  and_false false b e = refl

  -- a node with an operand that isn't a value isn't finished
  pub node-open : (r : R) (done : List Value) (t : Term R) (ts : Terms R) → is_value t ≡ false
      → node T.no_step r (after done (Cons t ts)) ≡ Node r (after done (Cons t ts))
  node-open r done t ts e =
      ap (λ b. cond b (Val Undefined) (Node r (after done (Cons t ts)))) (and_false (T.no_step r) (are_values (after done (Cons t ts))) (no_values done t ts e))

  pub not_early : (a b : Bool) → (not a && b) ≡ true → a ≡ false
  not_early true b e = cc
  not_early false b e = refl

  pub passed : (a b : Bool) → (not a && b) ≡ true → b ≡ true
  passed true b e = cc
  passed false b e = e

  -- operands that are values are passed over
  pub first-after : (c : Context) (w : World) (h : H) (r : R) (done vs : List Value) (ts : Terms R) → passes T.is_early r done vs ≡ true
      → first T c w h r done (after vs ts) ≡ first T c w h r (done ++ vs) ts
  unfolding contract
  first-after c w h r done [] ts e = ap (λ vs. first T c w h r vs ts) (sym (append-nil done))
  first-after c w h r done (v ∷ vs) ts e =
      ap (λ b. cond b (page_step (T.early c w h r done (Cons (Val v) (after vs ts)))) (first T c w h r (done ++ v ∷ []) (after vs ts))) (not_early (T.is_early r done) (passes T.is_early r (done ++ v ∷ []) vs) e)
      ∙ (first-after c w h r (done ++ v ∷ []) vs ts (passed (T.is_early r done) (passes T.is_early r (done ++ v ∷ []) vs) e)
      ∙ ap (λ us. first T c w h r us ts) (append_assoc done (v ∷ []) vs))

  abbrev operand : Context → World → H → R → List Value → Terms R → Contraction R H → Contraction R H
  operand c w h r done ts o = elim o as (λ _. Contraction R H) [
    | Ends v ↦ first T c w h r (done ++ v ∷ []) ts
    | Stops k ↦ page_step (T.meets c w h r k)
    | Steps hidden u w' h' ↦ within T r done ts (Steps hidden u w' h')
    | Questions q ↦ Questions q
  ]

  -- where no early step is due, the next operand is evaluated
  first-operand : (c : Context) (w : World) (h : H) (r : R) (done : List Value) (t : Term R) (ts : Terms R) → T.is_early r done ≡ false
      → first T c w h r done (Cons t ts) ≡ operand c w h r done ts (contract T (T.inner r c) w h t)
  unfolding contract
  first-operand c w h r done t ts e =
      ap (λ b. cond b (page_step (T.early c w h r done (Cons t ts))) (operand c w h r done ts (contract T (T.inner r c) w h t))) e

  first-early : (c : Context) (w : World) (h : H) (r : R) (done : List Value) (t : Term R) (ts : Terms R) → T.is_early r done ≡ true
      → first T c w h r done (Cons t ts) ≡ page_step (T.early c w h r done (Cons t ts))
  unfolding contract
  first-early c w h r done t ts e =
      ap (λ b. cond b (page_step (T.early c w h r done (Cons t ts))) (operand c w h r done ts (contract T (T.inner r c) w h t))) e

  within_carried : (r : R) (done : List Value) (ts : Terms R) (c : Context) (w : World) (h : H) (o : Contraction R H) → is_due o ≡ true
      → operand c w h r done ts o ≡ carried (λ u. node T.no_step r (after done (Cons u ts))) o
  within_carried r done ts c w h (Ends v) e = cc
  within_carried r done ts c w h (Stops k) e = cc
  within_carried r done ts c w h (Steps hidden u w' h') e = refl
  within_carried r done ts c w h (Questions q) e = refl

  hold_carried : (w : World) (h : H) (f : Hidden) (o : Contraction R H) → is_due o ≡ true → at_hold T w h f o ≡ carried (Hold f) o
  hold_carried w h f (Ends v) e = cc
  hold_carried w h f (Stops k) e = cc
  hold_carried w h f (Steps hidden u w' h') e = refl
  hold_carried w h f (Questions q) e = refl

  -- a step below a node is a step of the node
  pub contract-node : (c : Context) (w : World) (h : H) (r : R) (done : List Value) (t : Term R) (ts : Terms R)
      → passes T.is_early r [] done ≡ true → T.is_early r done ≡ false → is_due (contract T (T.inner r c) w h t) ≡ true
      → contract T c w h (node T.no_step r (after done (Cons t ts)))
      ≡ carried (λ u. node T.no_step r (after done (Cons u ts))) (contract T (T.inner r c) w h t)
  unfolding contract
  contract-node c w h r done t ts a b e =
      ap (contract T c w h) (node-open r done t ts (no_value (T.inner r c) w h t e))
      ∙ (first-after c w h r [] done (Cons t ts) a
      ∙ (first-operand c w h r done t ts b
      ∙ within_carried r done ts c w h (contract T (T.inner r c) w h t) e))

  -- a node whose operands are values
  pub contract-values : (c : Context) (w : World) (h : H) (r : R) (done : List Value) → T.no_step r ≡ false → passes T.is_early r [] done ≡ true
      → contract T c w h (node T.no_step r (after done Nil)) ≡ at_rest T c w h r done (T.enters c w h r done)
  unfolding contract
  contract-values c w h r done e a =
      ap (contract T c w h) (ap (λ b. cond (b && are_values {R = R} (after done Nil)) (Val Undefined) (Node r (after done Nil))) e)
      ∙ first-after c w h r [] done Nil a

  -- a node whose first operands call for an early step
  pub contract-early : (c : Context) (w : World) (h : H) (r : R) (done : List Value) (t : Term R) (ts : Terms R)
      → T.no_step r ≡ false → passes T.is_early r [] done ≡ true → T.is_early r done ≡ true
      → contract T c w h (node T.no_step r (after done (Cons t ts))) ≡ page_step (T.early c w h r done (Cons t ts))
  unfolding contract
  contract-early c w h r done t ts e a b =
      ap (contract T c w h) (ap (λ b. cond (b && are_values {R = R} (after done (Cons t ts))) (Val Undefined) (Node r (after done (Cons t ts)))) e)
      ∙ (first-after c w h r [] done (Cons t ts) a
      ∙ first-early c w h r done t ts b)

  -- a node that a completion has reached
  pub contract-stop : (c : Context) (w : World) (h : H) (r : R) (done : List Value) (k : Completion) (ts : Terms R)
      → passes T.is_early r [] done ≡ true → T.is_early r done ≡ false
      → contract T c w h (node T.no_step r (after done (Cons (Stop k) ts))) ≡ page_step (T.meets c w h r k)
  unfolding contract
  contract-stop c w h r done k ts a b =
      ap (contract T c w h) (node-open r done (Stop k) ts refl)
      ∙ (first-after c w h r [] done (Cons (Stop k) ts) a
      ∙ first-operand c w h r done (Stop k) ts b)

  is_due-carried : (k : Term R → Term R) (o : Contraction R H) → is_due (carried k o) ≡ is_due o
  is_due-carried k (Ends v) = refl
  is_due-carried k (Stops c) = refl
  is_due-carried k (Steps hidden u w h) = refl
  is_due-carried k (Questions q) = refl

  carried-twice : (k l : Term R → Term R) (o : Contraction R H) → carried k (carried l o) ≡ carried (λ t. k (l t)) o
  carried-twice k l (Ends v) = refl
  carried-twice k l (Stops c) = refl
  carried-twice k l (Steps hidden u w h) = refl
  carried-twice k l (Questions q) = refl

  same_carried : (o : Contraction R H) → o ≡ carried (λ t. t) o
  same_carried (Ends v) = refl
  same_carried (Stops c) = refl
  same_carried (Steps hidden u w h) = refl
  same_carried (Questions q) = refl

  module _ {X : Type 0} (term : R → X → Term R) where
    abbrev read : List (Frame R X) → Term R → Term R
    read fs t = reading T.no_step term fs t

    abbrev frame : Frame R X → Term R → Term R
    frame f t = around T.no_step term f t

    -- a step below a frame is a step of the frame
    pub contract-around : (f : Frame R X) (c : Context) (w : World) (h : H) (t : Term R) → IsSettled T f → is_due (contract T (frame_context T f c) w h t) ≡ true
        → contract T c w h (frame f t) ≡ carried (frame f) (contract T (frame_context T f c) w h t)
    unfolding contract
    contract-around (Waiting r done todo) c w h t a e = contract-node c w h r done t (terms (term r) todo) a.0 a.1 e
    contract-around (Applying f) c w h t a e = hold_carried w h f (contract T c w h t) e

    -- a step at the top of a stack is one step of the whole term
    pub contract-reading : (fs : List (Frame R X)) (c : Context) (w : World) (h : H) (t : Term R) → AreSettled T fs → is_due (contract T (context_at T fs c) w h t) ≡ true
        → contract T c w h (read fs t) ≡ carried (read fs) (contract T (context_at T fs c) w h t)
    contract-reading [] c w h t a e = same_carried (contract T c w h t)
    contract-reading (f ∷ fs) c w h t a e =
        let ih = contract-reading fs (frame_context T f c) w h t a.1 e in
        contract-around f c w h (read fs t) a.0 (ap is_due ih ∙ (is_due-carried (read fs) (contract T (context_at T fs (frame_context T f c)) w h t) ∙ e))
        ∙ (ap (carried (frame f)) ih ∙ carried-twice (frame f) (read fs) (contract T (context_at T fs (frame_context T f c)) w h t))
