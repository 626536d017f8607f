-- What holds of a stack whose last frame rests, and of one whose frames all wait.
use Rattle.std.proofs.Common.{◌≡◌, Bool, true, false, not, ◌&&◌, List, [], ◌∷◌}
use Rattle.std.proofs.Common.{◌++◌, Some, map, refl, ap, sym, subst, ◌∙◌, append_assoc}
use Rattle.std.proofs.lemmas.List.{append-nil}
use Rattle.js_value.specs.declared.value.Value.{Value}
use Rattle.js_heap.specs.Closed.{Each}
use Rattle.js_host.proofs.Lists.{each-append, each-left, each-right}
use Rattle.js_term.specs.Frames.{AreSettled, IsSettled, context_at, passes}
use Rattle.js_term.specs.declared.completion.Completion.{Completion}
use Rattle.js_term.specs.declared.context.Context.{Context}
use Rattle.js_frames.specs.Arenas.{Arenas}
use Rattle.js_frames.specs.Reading.{below, last, waits}
use Rattle.js_frames.specs.Rows.{frame_row}
use Rattle.js_frames.specs.Soundness.{AreNested, AreWaiting, Awaits, IsPlaced, IsResting, IsSound, StandsIn}
use Rattle.js_frames.specs.Soundness.{TopRests, inner_of, moved_rows}
use Rattle.js_frames.specs.declared.frame.Focus.TheVariants as focus
use Rattle.js_frames.specs.declared.frame.Frame.{Frame}
use Rattle.js_frames.specs.declared.stack.Stack.{Stack}
use Rattle.js_frames.proofs.Tops.{front-push, last-push}

none-early : (b : Bool) → b ≡ false → not b && true ≡ true
none-early false e = refl
none-early true e = cc

both : (b c d : Bool) → b && c ≡ true → (c ≡ true → d ≡ true) → b && d ≡ true
both true c d e f = f e
both false c d e f = cc

-- behind one more value
pub passes-push : {R : Type 0} (is_early : R → List Value → Bool) (r : R) (done vs : List Value)
    (v : Value)
    → passes is_early r done vs ≡ true → is_early r (done ++ vs) ≡ false
    → passes is_early r done (vs ++ v ∷ []) ≡ true
passes-push is_early r done [] v a b = none-early (is_early r done) (ap (is_early r) (sym
    (append-nil done)) ∙ b)
passes-push is_early r done (w ∷ vs) v a b =
    both (not (is_early r done)) (passes is_early r (done ++ w ∷ []) vs) (passes is_early r
    (done ++ w ∷ []) (vs ++ v ∷ [])) a
    (λ c. passes-push is_early r (done ++ w ∷ []) vs v c (ap (is_early r) (append_assoc done
    (w ∷ []) vs) ∙ b))

module _ {D : Type 0} (ts : Arenas) where
  abbrev pub at : List (Frame D) → Context → Context
  at fs c = context_at moved_rows (map (waits ts) fs) c

  pub nested-push : (fs : List (Frame D)) (f : Frame D) (c : Context) → AreNested ts c fs
      → StandsIn ts (at fs c) f → AreNested ts c (fs ++ f ∷ [])
  nested-push [] f c a b = (b, tt)
  nested-push (g ∷ fs) f c a b = (a.0, nested-push fs f (inner_of (frame_row ts g).row c) a.1 b)

  pub nested-left : (fs : List (Frame D)) (f : Frame D) (c : Context) → AreNested ts c
      (fs ++ f ∷ []) → AreNested ts c fs
  nested-left [] f c a = tt
  nested-left (g ∷ fs) f c a = (a.0, nested-left fs f (inner_of (frame_row ts g).row c) a.1)

  pub nested-last : (fs : List (Frame D)) (f : Frame D) (c : Context) → AreNested ts c
      (fs ++ f ∷ []) → StandsIn ts (at fs c) f
  nested-last [] f c a = a.0
  nested-last (g ∷ fs) f c a = nested-last fs f (inner_of (frame_row ts g).row c) a.1

  pub context-push : (fs : List (Frame D)) (f : Frame D) (c : Context) → at
      (fs ++ f ∷ []) c ≡ inner_of (frame_row ts f).row (at fs c)
  context-push [] f c = refl
  context-push (g ∷ fs) f c = context-push fs f (inner_of (frame_row ts g).row c)

  abbrev pub Settled : List (Frame D) → Type 0
  Settled fs = AreSettled moved_rows (map (waits ts) fs)

  pub settled-push : (fs : List (Frame D)) (f : Frame D) → Settled fs → IsSettled moved_rows
      (waits ts f) → Settled (fs ++ f ∷ [])
  settled-push [] f a b = (b, tt)
  settled-push (g ∷ fs) f a b = (a.0, settled-push fs f a.1 b)

  pub settled-left : (fs : List (Frame D)) (f : Frame D) → Settled (fs ++ f ∷ []) → Settled fs
  settled-left [] f a = tt
  settled-left (g ∷ fs) f a = (a.0, settled-left fs f a.1)

  pub settled-last : (fs : List (Frame D)) (f : Frame D) → Settled (fs ++ f ∷ [])
      → IsSettled moved_rows (waits ts f)
  settled-last [] f a = a.0
  settled-last (g ∷ fs) f a = settled-last fs f a.1

  abbrev pub Waiting : (base c : Context) → List (Frame D) → Type 0
  Waiting base c fs = AreWaiting ts base c fs

  -- a frame that rests above frames that wait
  pub record Resting (base c : Context) (fs : List (Frame D)) (f : Frame D) : Type 0 where
    pub waiting : Waiting base c fs
    pub placed : IsPlaced ts f
    pub rests : IsResting ts c f

  module _ (s : Stack D) where
    abbrev items : List (Frame D)
    items = s.frames.items

    -- a stack whose last frame rests
    module _ (fs : List (Frame D)) (f : Frame D) (is : s.focus ≡ focus.Resting)
        (e : s.frames.items ≡ fs ++ f ∷ []) where
      below-rest : below s.focus s.frames.items ≡ fs
      below-rest = ap (λ t. below t s.frames.items) is ∙ (ap (below focus.Resting) e
          ∙ front-push fs f)

      last-rest : last s.frames.items ≡ Some f
      last-rest = ap last e ∙ last-push fs f

      pub resting-of : IsSound ts s → Resting s.base s.context fs f
      resting-of h =
          let all : Each (IsPlaced ts) (fs ++ f ∷ []) = subst (Each (IsPlaced ts)) e h.placed in
          let top : TopRests ts s.context focus.Resting (last s.frames.items) =
          subst (λ t. TopRests ts s.context t (last s.frames.items)) is h.top in
          record {
            waiting = record {
              placed = each-left (IsPlaced ts) fs (f ∷ []) all;
              awaits = subst (Each Awaits) below-rest h.awaits;
              settled = subst Settled below-rest h.settled;
              nested = subst (AreNested ts s.base) below-rest h.nested;
              context = h.context ∙ ap (λ xs. at xs s.base) below-rest;
            };
            placed = (each-right (IsPlaced ts) fs (f ∷ []) all).0;
            rests = subst (TopRests ts s.context focus.Resting) last-rest top;
          }

      pub rest-sound : Resting s.base s.context fs f → IsSound ts s
      rest-sound h =
          let back : fs ≡ below s.focus s.frames.items = sym below-rest in
          let top : TopRests ts s.context focus.Resting (last s.frames.items) =
          subst (TopRests ts s.context focus.Resting) (sym last-rest) h.rests in
          record {
            placed = subst (Each (IsPlaced ts)) (sym e) (each-append (IsPlaced ts) fs
                (f ∷ []) h.waiting.placed (h.placed, tt));
            awaits = subst (Each Awaits) back h.waiting.awaits;
            settled = subst Settled back h.waiting.settled;
            nested = subst (AreNested ts s.base) back h.waiting.nested;
            context = h.waiting.context ∙ ap (λ xs. at xs s.base) back;
            top = subst (λ t. TopRests ts s.context t (last s.frames.items)) (sym is) top;
          }

    -- a stack with a value at its top
    module _ (v : Value) (fs : List (Frame D)) (is : s.focus ≡ focus.Value v)
        (e : s.frames.items ≡ fs) where
      below-value : below s.focus s.frames.items ≡ fs
      below-value = ap (λ t. below t s.frames.items) is ∙ e

      pub waiting-of : IsSound ts s → Waiting s.base s.context fs
      waiting-of h = record {
        placed = subst (Each (IsPlaced ts)) e h.placed;
        awaits = subst (Each Awaits) below-value h.awaits;
        settled = subst Settled below-value h.settled;
        nested = subst (AreNested ts s.base) below-value h.nested;
        context = h.context ∙ ap (λ xs. at xs s.base) below-value;
      }

      pub value-sound : Waiting s.base s.context fs → IsSound ts s
      value-sound h =
          let back : fs ≡ below s.focus s.frames.items = sym below-value in
          record {
            placed = subst (Each (IsPlaced ts)) (sym e) h.placed;
            awaits = subst (Each Awaits) back h.awaits;
            settled = subst Settled back h.settled;
            nested = subst (AreNested ts s.base) back h.nested;
            context = h.context ∙ ap (λ xs. at xs s.base) back;
            top = subst (λ t. TopRests ts s.context t (last s.frames.items)) (sym is) tt;
          }

    -- a stack with a completion at its top
    module _ (k : Completion) (fs : List (Frame D)) (is : s.focus ≡ focus.Abrupt k)
        (e : s.frames.items ≡ fs) where
      below-abrupt : below s.focus s.frames.items ≡ fs
      below-abrupt = ap (λ t. below t s.frames.items) is ∙ e

      pub stopped-of : IsSound ts s → Waiting s.base s.context fs
      stopped-of h = record {
        placed = subst (Each (IsPlaced ts)) e h.placed;
        awaits = subst (Each Awaits) below-abrupt h.awaits;
        settled = subst Settled below-abrupt h.settled;
        nested = subst (AreNested ts s.base) below-abrupt h.nested;
        context = h.context ∙ ap (λ xs. at xs s.base) below-abrupt;
      }

      pub abrupt-sound : Waiting s.base s.context fs → IsSound ts s
      abrupt-sound h =
          let back : fs ≡ below s.focus s.frames.items = sym below-abrupt in
          record {
            placed = subst (Each (IsPlaced ts)) (sym e) h.placed;
            awaits = subst (Each Awaits) back h.awaits;
            settled = subst Settled back h.settled;
            nested = subst (AreNested ts s.base) back h.nested;
            context = h.context ∙ ap (λ xs. at xs s.base) back;
            top = subst (λ t. TopRests ts s.context t (last s.frames.items)) (sym is) tt;
          }
