-- Facts of what a term names, and what it means that a table's rows keep them.
use Rattle.std.specs.Prelude.{List, [], ◌∷◌, Some, None, Bool, false, ◌≡◌}
use Rattle.js_value.specs.declared.value.Value.{Value}
use Rattle.js_value.specs.declared.value.Value.TheVariants.{Undefined}
use Rattle.js_heap.specs.World.{World}
use Rattle.js_term.specs.declared.completion.Completion.{Completion}
use Rattle.js_term.specs.declared.context.Context.{Context}
use Rattle.js_term.specs.Term.{Hidden, Term, Terms}
use Rattle.js_term.specs.Term.Term.{Val, Stop, Node, Ready, Hold, Hook}
use Rattle.js_term.specs.Term.Terms.{Nil, Cons}
use Rattle.js_term.specs.Table.{Entry, Left, Step, Table}
use Rattle.js_term.specs.Table.Step.{Gives, Asks}
use Rattle.js_term.specs.Contraction.{Contraction}
use Rattle.js_term.specs.Contraction.Contraction.{Ends, Stops, Steps, Questions}

abbrev pub Each : {X : Type 0} → (X → Type 0) → List X → Type 0
Each P [] = Unit {0}
Each P (x ∷ xs) = P x × Each P xs

-- facts in a world of values, rows, completions, contexts and hosts, and of a world after another
pub record Facts (R H : Type 0) : Type 1 where
  pub value : World → Value → Type 0
  pub row : World → R → Type 0
  pub completion : World → Completion → Type 0
  pub context : World → Context → Type 0
  pub host : World → H → Type 0
  pub later : World → World → Type 0

module _ {R H : Type 0} (F : Facts R H) where
  -- all that a term names has its fact
  abbrev mutual
    pub TermHas : World → Term R → Type 0
    TermHas w (Val v) = F.value w v
    TermHas w (Stop k) = F.completion w k
    TermHas w (Node r ts) = F.row w r × TermsHas w ts
    TermHas w (Ready f r vs) = F.row w r × Each (F.value w) vs
    TermHas w (Hold f t) = TermHas w t
    TermHas w (Hook f t) = TermHas w t

    pub TermsHas : World → Terms R → Type 0
    TermsHas w Nil = Unit {0}
    TermsHas w (Cons t ts) = TermHas w t × TermsHas w ts

  abbrev pub StepHas : World → Step R H → Type 0
  StepHas w (Gives t w' h') = F.later w w' × F.host w' h' × TermHas w' t
  StepHas w (Asks q) = Unit {0}

  abbrev pub ContractionHas : World → Contraction R H → Type 0
  ContractionHas w (Ends v) = F.value w v
  ContractionHas w (Stops k) = F.completion w k
  ContractionHas w (Steps hidden t w' h') = F.later w w' × F.host w' h' × TermHas w' t
  ContractionHas w (Questions q) = Unit {0}

  -- what the rows owe
  pub record TableKeeps (T : Table R H) : Type 0 where
    pub same : (w : World) → F.later w w
    pub value : (w w' : World) (v : Value) → F.later w w' → F.value w v → F.value w' v
    pub row : (w w' : World) (r : R) → F.later w w' → F.row w r → F.row w' r
    pub completion : (w w' : World) (k : Completion) → F.later w w' → F.completion w k
        → F.completion w' k
    pub undefined : (w : World) → F.value w Undefined
    pub inner : (w : World) (r : R) (c : Context) → F.row w r → F.context w c
        → F.context w (T.inner r c)
    pub make : (c : Context) (w : World) (h : H) (r : R) (vs : List Value) → T.no_step r ≡ false
        → T.enters c w h r vs ≡ None
        → F.context w c → F.host w h → F.row w r → Each (F.value w) vs
        → StepHas w (T.make c w h r vs)
    pub early : (c : Context) (w : World) (h : H) (r : R) (vs : List Value) (ts : Terms R)
        → F.context w c → F.host w h → F.row w r → Each (F.value w) vs → TermsHas w ts
        → StepHas w (T.early c w h r vs ts)
    pub meets : (c : Context) (w : World) (h : H) (r : R) (k : Completion)
        → F.context w c → F.host w h → F.row w r → F.completion w k → StepHas w (T.meets c w h r k)
    pub entry : (c : Context) (w : World) (h : H) (r : R) (vs : List Value) (e : Entry)
        → T.enters c w h r vs ≡ Some e
        → Each (F.value w) vs → Each (F.value w) e.values
    pub before : (w : World) (h : H) (f : Hidden) (r : R) (vs : List Value) (l : Left H)
        → T.before w h f r vs ≡ Some l
        → F.host w h → Each (F.value w) vs → F.host w l.host × Each (F.value w) l.values
    pub behind : (w : World) (h k : H) (f : Hidden) (stopped : Bool) → T.behind h f stopped ≡ Some k
        → F.host w h → F.host w k
