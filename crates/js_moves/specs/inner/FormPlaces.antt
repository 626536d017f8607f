-- What natives and dispatches come to, as terms above frames that wait.
use Rattle.std.specs.Prelude.{List, [], ◌∷◌, Option, Some, None}
use Rattle.js_value.specs.declared.value.Value.{Value}
use Rattle.js_value.specs.declared.value.Value.TheVariants as value
use Rattle.js_heap.specs.World.{World}
use Rattle.js_host.specs.declared.call.NextCall.{NextCall}
use Rattle.js_host.specs.declared.call.NextCall.TheVariants as next_call
use Rattle.js_host.specs.declared.call.Outcome.{Outcome}
use Rattle.js_host.specs.declared.call.Outcome.TheVariants as outcome
use Rattle.js_term.specs.Term.{Term, after}
use Rattle.js_term.specs.Term.Term.{Node, Stop, Val}
use Rattle.js_term.specs.Term.Terms.{Cons, Nil}
use Rattle.js_term.specs.declared.completion.Completion.TheVariants.{Throw}
use Rattle.js_term.specs.declared.context.Context.{Context}
use Rattle.js_operands.specs.Rows.ExprRow.{CallOn}
use Rattle.js_operands.specs.declared.row.Phase.TheVariants as phase
use Rattle.js_rows.specs.Forms.{Form}
use Rattle.js_rows.specs.Forms.Form.{Begin, Dispatch, Fresh, Native}
use Rattle.js_rows.specs.Hosted.{PageRow, expression, form, waits}
use Rattle.js_rows.specs.Row.{placed}
use Rattle.js_rows.specs.Row.Row.{Expression}
use Rattle.js_frames.specs.Arenas.{Arenas}
use Rattle.js_frames.specs.Rows.{place_at}
use Rattle.js_frames.specs.declared.frame.Frame.{Frame}
use Rattle.js_frames.specs.declared.frame.Site.{Site}
use Rattle.js_frames.specs.declared.frame.Work.{Work}
use Rattle.js_frames.specs.declared.frame.Work.TheVariants as work
use Rattle.js_frames.specs.declared.stack.Stack.{Stack}
use Rattle.js_moves.specs.inner.Places.{Puts}

module _ {D : Type 0} where
  -- the form that a frame's work is
  abbrev pub form_of : Work D → Option (Form D)
  form_of (work.Native q) = Some (Native q.value)
  form_of (work.Begin d) = Some (Begin d)
  form_of (work.Fresh e) =
      Some (Fresh e.value.target e.value.kind e.value.bubbles e.value.cancelable)
  form_of (work.Dispatch d) = Some (Dispatch d)
  form_of w = None

  -- a call of these values, at its place
  abbrev pub call_term : Arenas → Option Site → List Value → Term (PageRow D)
  call_term ts site vs =
      Node (placed (place_at ts {D = D} site (work.Expression phase.Begun)) (Expression CallOn))
      (after vs Nil)

  -- a dispatch waits for the call of a listener, or has ended
  abbrev pub next_term : D → NextCall → Term (PageRow D)
  next_term d (next_call.Call f this event) =
      form (Dispatch d)
      (Cons (expression CallOn (after (f ∷ this ∷ value.Ref event ∷ []) Nil)) Nil)
  next_term d (next_call.End kept) = Val (value.Bool kept)

  -- what a native comes to stands above these frames; a question does not
  module _ (dispatched : D → List Value) (ts : Arenas) (w : World) (base : Context)
      (fs : List (Frame D)) (s : Stack D) where
    abbrev pub PutsOutcome : Outcome → Type 0
    PutsOutcome (outcome.Value v) = Puts dispatched ts w base fs (Val v) s
    PutsOutcome (outcome.Throw v) = Puts dispatched ts w base fs (Stop (Throw v)) s
    PutsOutcome (outcome.Enter c q) = Puts dispatched ts w base fs (waits c q) s
    PutsOutcome (outcome.Needs k) = ⊥
    PutsOutcome outcome.NoMemory = ⊥
