-- The plain image of a term: what is left of it without wraps and hidden forms.
use Rattle.std.specs.Prelude.{Bool, true, false, List, Some, None, map, ◌≡◌}
use Rattle.js_value.specs.declared.value.Value.{Value}
use Rattle.js_value.specs.Image.{image}
use Rattle.js_heap.specs.World.{World}
use Rattle.js_term.specs.declared.completion.Completion.{Completion}
use Rattle.js_term.specs.declared.context.Context.{Context}
use Rattle.js_term.specs.Completions.{plain_completion, plain_context}
use Rattle.js_term.specs.Term.{Hidden, Term, Terms, after, node}
use Rattle.js_term.specs.Term.Term.{Val, Stop, Node, Ready, Hold, Hook}
use Rattle.js_term.specs.Term.Terms.{Nil, Cons}
use Rattle.js_term.specs.Table.{Entry, Left, Question, Step, Table}
use Rattle.js_term.specs.Table.Step.{Gives, Asks}
use Rattle.js_term.specs.Contraction.{Contraction}
use Rattle.js_term.specs.Contraction.Contraction.{Ends, Stops, Steps, Questions}

-- the images of a row, of a world, and of what a host holds
pub record Images (R H : Type 0) : Type 0 where
  pub row : R → R
  pub world : World → World
  pub host : H → H

-- T is the table of a run with hidden forms, P that of the plain run
module _ {R H : Type 0} (T P : Table R H) (I : Images R H) where
  -- A hidden form before its apply stands for the node that it holds, from its apply on for what
  -- stands in it, and a hook for what it stands in front of.
  abbrev mutual
    pub plain : Term R → Term R
    plain (Val v) = Val (image v)
    plain (Stop k) = Stop (plain_completion k)
    plain (Node r ts) = node P.no_step (I.row r) (plains ts)
    plain (Ready f r vs) = node P.no_step (I.row r) (after (map image vs) Nil)
    plain (Hold f t) = plain t
    plain (Hook f t) = plain t

    pub plains : Terms R → Terms R
    plains Nil = Nil
    plains (Cons t ts) = Cons (plain t) (plains ts)

  abbrev pub plain_step : Step R H → Step R H
  plain_step (Gives t w h) = Gives (plain t) (I.world w) (I.host h)
  plain_step (Asks q) = Asks q

  -- What the tables owe: each row commutes with the images, a row without a step has no early one
  -- and enters nothing, the plain table enters nothing, and hidden statements change no image.
  pub record TablesCommute : Type 0 where
    pub no_step : (r : R) → P.no_step (I.row r) ≡ T.no_step r
    pub inner : (r : R) (c : Context)
        → P.inner (I.row r) (plain_context c) ≡ plain_context (T.inner r c)
    pub make : (c : Context) (w : World) (h : H) (r : R) (vs : List Value) → T.no_step r ≡ false
        → T.enters c w h r vs ≡ None
        → P.make (plain_context c) (I.world w) (I.host h) (I.row r) (map image vs)
        ≡ plain_step (T.make c w h r vs)
    pub is_early : (r : R) (vs : List Value) → P.is_early (I.row r) (map image vs) ≡ T.is_early r vs
    pub early : (c : Context) (w : World) (h : H) (r : R) (vs : List Value) (ts : Terms R)
        → P.early (plain_context c) (I.world w) (I.host h) (I.row r) (map image vs) (plains ts)
        ≡ plain_step (T.early c w h r vs ts)
    pub meets : (c : Context) (w : World) (h : H) (r : R) (k : Completion)
        → P.meets (plain_context c) (I.world w) (I.host h) (I.row r) (plain_completion k)
        ≡ plain_step (T.meets c w h r k)
    pub late : (r : R) (vs : List Value) → P.no_step r ≡ true → P.is_early r vs ≡ false
    pub free : (c : Context) (w : World) (h : H) (r : R) (vs : List Value) → T.no_step r ≡ true
        → T.enters c w h r vs ≡ None
    pub plain_enters : (c : Context) (w : World) (h : H) (r : R) (vs : List Value)
        → P.enters c w h r vs ≡ None
    pub entry : (c : Context) (w : World) (h : H) (r : R) (vs : List Value) (e : Entry)
        → T.enters c w h r vs ≡ Some e → map image e.values ≡ map image vs
    pub before : (w : World) (h : H) (f : Hidden) (r : R) (vs : List Value) (l : Left H)
        → T.before w h f r vs ≡ Some l
        → (map image l.values ≡ map image vs) × (I.host l.host ≡ I.host h)
    pub behind : (h k : H) (f : Hidden) (stopped : Bool) → T.behind h f stopped ≡ Some k
        → I.host k ≡ I.host h

  -- p, v and g are the images of a term, its world and its host. What the term comes to has the
  -- image that its image comes to; a hidden step leaves the images as they were
  pub data Agrees (p : Term R) (v : World) (g : H) : Contraction R H → Contraction R H
      → Type 0 where
    Values : (x : Value) → p ≡ Val (image x) → Agrees p v g (Ends x) (Ends (image x))
    Completions : (k : Completion) → p ≡ Stop (plain_completion k)
        → Agrees p v g (Stops k) (Stops (plain_completion k))
    Pages : (t : Term R) (w : World) (h : H)
        → Agrees p v g (Steps false t w h) (Steps false (plain t) (I.world w) (I.host h))
    Hides : (t : Term R) (w : World) (h : H) (o : Contraction R H) → plain t ≡ p → I.world w ≡ v
        → I.host h ≡ g → Agrees p v g (Steps true t w h) o
    Same : (q : Question) → Agrees p v g (Questions q) (Questions q)
