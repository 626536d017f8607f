-- One contraction. What is due is the first subterm that isn't a value, from the root, in the order
-- of operands: a completion, a node whose operands are values or whose first ones call for an early
-- step, or a hidden form.
use Rattle.std.specs.Prelude.{List, [], ◌∷◌, ◌++◌, Bool, true, false, Option, Some, None, cond}
use Rattle.js_value.specs.declared.value.Value.TheVariants.{Undefined}
use Rattle.js_value.specs.declared.value.Value.{Value}
use Rattle.js_heap.specs.World.{World}
use Rattle.js_term.specs.declared.completion.Completion.{Completion}
use Rattle.js_term.specs.declared.context.Context.{Context}
use Rattle.js_term.specs.Term.{Hidden, Term, Terms, after, next, node, start}
use Rattle.js_term.specs.Term.Term.{Val, Stop, Node, Ready, Hold, Hook}
use Rattle.js_term.specs.Term.Terms.{Nil, Cons}
use Rattle.js_term.specs.Table.{Entry, Left, Question, Step, Table}
use Rattle.js_term.specs.Table.Step.{Gives, Asks}

-- what a term comes to: it is a value or a completion, it makes a step, hidden or of the page, or
-- it asks
pub data Contraction (R H : Type 0) : Type 0 where
  Ends : Value → Contraction R H
  Stops : Completion → Contraction R H
  Steps : (hidden : Bool) → Term R → World → H → Contraction R H
  Questions : Question → Contraction R H

abbrev pub hidden_step : {R H : Type 0} → Term R → World → H → Contraction R H
hidden_step t w h = Steps true t w h

abbrev pub page_step : {R H : Type 0} → Step R H → Contraction R H
page_step (Gives t w h) = Steps false t w h
page_step (Asks q) = Questions q

module _ {R H : Type 0} (T : Table R H) where
  -- a node after a step of one of its operands
  abbrev pub within : R → List Value → Terms R → Contraction R H → Contraction R H
  within r done ts (Steps hidden t w h) =
      Steps hidden (node T.no_step r (after done (Cons t ts))) w h
  within r done ts o = o

  -- a node whose operands are values enters a hidden function, or is finished where its row has no
  -- step, or makes its row's step
  abbrev pub at_rest : Context → World → H → R → List Value → Option Entry → Contraction R H
  at_rest c w h r vs (Some e) = hidden_step (Ready (start e.function) r e.values) w h
  at_rest c w h r vs None = cond (T.no_step r) (Ends Undefined) (page_step (T.make c w h r vs))

  -- a hidden function before its apply makes its next statement, or the apply, which brings the
  -- node
  abbrev pub at_ready : World → H → Hidden → R → List Value → Option (Left H) → Contraction R H
  at_ready w h f r vs (Some l) = hidden_step (Ready (next f) r l.values) w l.host
  at_ready w h f r vs None =
      hidden_step (Hold (start f.function) (node T.no_step r (after vs Nil))) w h

  -- what a hidden function does at a statement from its apply on, with what it keeps: that
  -- statement, or it gives what it keeps back
  abbrev pub behind_apply : World → Hidden → Term R → H → Option H → Contraction R H
  behind_apply w f t h (Some k) = hidden_step (Hold (next f) t) w k
  behind_apply w f t h None = hidden_step t w h

  -- a hidden function from its apply on, by what stands in it
  abbrev pub at_hold : World → H → Hidden → Contraction R H → Contraction R H
  at_hold w h f (Ends v) = behind_apply w f (Val v) h (T.behind h f false)
  at_hold w h f (Stops k) = behind_apply w f (Stop k) h (T.behind h f true)
  at_hold w h f (Steps hidden t w' h') = Steps hidden (Hold f t) w' h'
  at_hold w h f (Questions q) = Questions q

  -- a hook makes its next statement, or ends
  abbrev pub at_hook : World → H → Hidden → Term R → Option H → Contraction R H
  at_hook w h f t (Some k) = hidden_step (Hook (next f) t) w k
  at_hook w h f t None = hidden_step t w h

  -- contract: what a term comes to. first: what a node comes to, of whose operands these are values
  unfoldable mutual
    pub contract : Context → World → H → Term R → Contraction R H
    contract c w h (Val v) = Ends v
    contract c w h (Stop k) = Stops k
    contract c w h (Node r ts) = first c w h r [] ts
    contract c w h (Ready f r vs) = at_ready w h f r vs (T.before w h f r vs)
    contract c w h (Hold f t) = at_hold w h f (contract c w h t)
    contract c w h (Hook f t) = at_hook w h f t (T.behind h f false)

    pub first : Context → World → H → R → List Value → Terms R → Contraction R H
    first c w h r done Nil = at_rest c w h r done (T.enters c w h r done)
    first c w h r done (Cons t ts) =
        cond (T.is_early r done) (page_step (T.early c w h r done (Cons t ts)))
        (elim (contract (T.inner r c) w h t) [
          | Ends v ↦ first c w h r (done ++ v ∷ []) ts
          | Stops k ↦ page_step (T.meets c w h r k)
          | Steps hidden u w' h' ↦ within r done ts (Steps hidden u w' h')
          | Questions q ↦ Questions q
        ])
