-- What stands outside of the language, by a host's calls, for one answer of the outside, where
-- there is one. Natives that wait, what they enter, and dispatches stand at no place of a text.
use Rattle.std.specs.Prelude.{ℕ, Bool, true, false, List, [], ◌∷◌, Option, Some, None}
use Rattle.js_value.specs.declared.value.NativeId.{NativeId}
use Rattle.js_value.specs.declared.value.Value.{Value}
use Rattle.js_value.specs.declared.value.Value.TheVariants as value
use Rattle.js_ops.specs.declared.equality.Hint.{Hint}
use Rattle.js_ops.specs.declared.equality.Hint.TheVariants as hint
use Rattle.js_heap.specs.World.{World}
use Rattle.js_host.specs.Natives.{asks, wants}
use Rattle.js_host.specs.Rows.{HostRows}
use Rattle.js_host.specs.declared.call.Callback.{Callback}
use Rattle.js_host.specs.declared.call.Callback.TheVariants as callback
use Rattle.js_host.specs.declared.call.DispatchAt.{DispatchAt}
use Rattle.js_host.specs.declared.call.Input.{Input}
use Rattle.js_host.specs.declared.call.NativeCall.{NativeCall}
use Rattle.js_host.specs.declared.call.NextCall.{NextCall}
use Rattle.js_host.specs.declared.call.NextCall.TheVariants as next_call
use Rattle.js_host.specs.declared.call.Order.TheVariants as order
use Rattle.js_host.specs.declared.call.Outcome.{Outcome}
use Rattle.js_host.specs.declared.call.Outcome.TheVariants as outcome
use Rattle.js_host.specs.declared.call.Resume.{Resume}
use Rattle.js_reference.specs.Errors.{Answer, thrown}
use Rattle.js_reference.specs.Errors.Answer.{Returns, Throws}
use Rattle.js_reference.specs.declared.error.ErrorName.TheVariants.{RangeError}
use Rattle.js_reference.specs.Hosted as reference
use Rattle.js_term.specs.declared.completion.Completion.{Completion}
use Rattle.js_term.specs.declared.completion.Completion.TheVariants.{Throw}
use Rattle.js_term.specs.declared.context.Context.{Context}
use Rattle.js_term.specs.Calls.{is_refused, question_of}
use Rattle.js_term.specs.Place.{Place, Placed}
use Rattle.js_term.specs.Place.Place.{Host}
use Rattle.js_term.specs.Table.{Step}
use Rattle.js_term.specs.Table.Step.{Asks, Gives}
use Rattle.js_term.specs.Term.{Term, Terms, after}
use Rattle.js_term.specs.Term.Term.{Node, Stop, Val}
use Rattle.js_term.specs.Term.Terms.{Cons, Nil}
use Rattle.js_tree.specs.Trees.{Tree}
use Rattle.js_calls.specs.Programs.{window_handler}
use Rattle.js_operands.specs.Rows.{ExprRow}
use Rattle.js_operands.specs.Rows.ExprRow.{CallOn, Convert}
use Rattle.js_rows.specs.Forms.{Form}
use Rattle.js_rows.specs.Forms.Form.{Begin, Dispatch, Fresh, Native}
use Rattle.js_rows.specs.Outside.{Outside}
use Rattle.js_rows.specs.Row.{Row, placed}

-- a row of a program that runs over a host with these dispatches
abbrev pub PageRow : Type 0 → Type 0
PageRow D = Placed (Row (Form D))

abbrev pub hint_of : (text : Bool) → Hint
hint_of true = hint.Text
hint_of false = hint.Number

-- the last listener's value, where one was called and threw nothing
abbrev pub last_of : List Value → Option Value
last_of [] = None
last_of (v ∷ vs) = Some v

module _ {D : Type 0} where
  abbrev pub expression : ExprRow → Terms (PageRow D) → Term (PageRow D)
  expression r ts = Node (placed Host (Row.Expression r)) ts

  abbrev pub form : Form D → Terms (PageRow D) → Term (PageRow D)
  form f ts = Node (placed Host (Row.Form f)) ts

  -- what a native enters: a call, a dispatch or a conversion, none of which has begun
  abbrev pub entered : Callback → Term (PageRow D)
  entered (callback.Call f this args) = expression CallOn (after (f ∷ this ∷ args) Nil)
  entered (callback.Dispatch d) = form (Begin d) Nil
  entered (callback.Convert text v) = expression (Convert (hint_of text)) (after (v ∷ []) Nil)

  abbrev pub waits : Callback → Resume → Term (PageRow D)
  waits c q = form (Native q) (Cons (entered c) Nil)

module _ {H D : Type 0} where
  -- what a native comes to; its definition doesn't run out of memory
  abbrev pub outcome_step : Outcome → World → H → Step (PageRow D) H
  outcome_step (outcome.Value v) w h = Gives (Val v) w h
  outcome_step (outcome.Throw v) w h = Gives (Stop (Throw v)) w h
  outcome_step (outcome.Enter c q) w h = Gives (waits c q) w h
  outcome_step (outcome.Needs k) w h = Asks (question_of k)
  outcome_step outcome.NoMemory w h = Gives (Val value.Undefined) w h

  abbrev pub outcome_of : Outcome × World × H → Step (PageRow D) H
  outcome_of o = outcome_step o.0 o.1 o.2

  abbrev pub throws_or : Answer H → Step (PageRow D) H
  throws_or (Returns v w h) = Gives (Val v) w h
  throws_or (Throws v w h) = Gives (Stop (Throw v)) w h

module _ {H D : Type 0} (R : HostRows H D) where
  -- a native that asks is given the answer, where there is one
  abbrev pub answered : Option Input → World → H → NativeId → NativeCall → Outcome × World × H
      → Outcome × World × H
  answered (Some i) w h n c (outcome.Needs k, w', h') = R.give w h n c i
  answered a w h n c r = r

  abbrev pub native_outcome : Option Input → World → H → NativeId → NativeCall
      → Outcome × World × H
  native_outcome a w h n c = answered a w h n c (R.native w h n c)

  -- the answer to its callback resumes a native
  abbrev pub resume_step : World → H → Resume → List Value → Step (PageRow D) H
  resume_step w h q (v ∷ vs) = outcome_of (R.resume w h q v)
  resume_step w h q [] = Gives (Val value.Undefined) w h

  -- a dispatch calls its next listener, or ends with whether the default is kept
  abbrev pub next_step : NextCall → D → World → H → Step (PageRow D) H
  next_step (next_call.Call f this event) d w h =
      Gives (form (Dispatch d)
      (Cons (expression CallOn (after (f ∷ this ∷ value.Ref event ∷ []) Nil)) Nil)) w h
  next_step (next_call.End kept) d w h = Gives (Val (value.Bool kept)) w h

  abbrev pub next_of : NextCall × D × World × H → Step (PageRow D) H
  next_of n = next_step n.0 n.1 n.2 n.3

  abbrev pub begin_of : D × World × H → Step (PageRow D) H
  begin_of d = Gives (form (Dispatch d.0) Nil) d.1 d.2

  -- an event that doesn't fit throws a RangeError; another's dispatch begins at once
  abbrev pub fresh_step : Option DispatchAt → World → H → Step (PageRow D) H
  fresh_step (Some d) w h = begin_of (R.start w h d)
  fresh_step None w h = throws_or (thrown RangeError w h)

  abbrev pub fresh_of : Option DispatchAt × World × H → Step (PageRow D) H
  fresh_of r = fresh_step r.0 r.1 r.2

  -- a throw out of a listener is told the host, and the dispatch goes on
  abbrev pub uncaught_in : D → Value → World → H → Step (PageRow D) H
  uncaught_in d v w h =
      let r = R.order w h (order.Uncaught v) in Gives (form (Dispatch d) Nil) r.1 r.2

  abbrev pub dispatch_meets : World → H → D → Completion → Step (PageRow D) H
  dispatch_meets w h d (Throw v) = uncaught_in d v w h
  dispatch_meets w h d k = Gives (Stop k) w h

  abbrev pub make_form : World → H → Form D → List Value → Step (PageRow D) H
  make_form w h (Native q) vs = resume_step w h q vs
  make_form w h (Begin d) vs = begin_of (R.start w h d)
  make_form w h (Fresh o x b c) vs = fresh_of (R.fresh w h o x b c)
  make_form w h (Dispatch d) vs = next_of (R.next w h d (last_of vs))

  abbrev pub meets_form : World → H → Form D → Completion → Step (PageRow D) H
  meets_form w h (Dispatch d) k = dispatch_meets w h d k
  meets_form w h f k = Gives (Stop k) w h

  -- with the functions of the texts
  abbrev pub outside : (function : (text unit : ℕ) → Tree) → Option Input
      → Outside (Form D) H
  outside function answer = record {
    own = reference.hosted R;
    wants = wants;
    asks = λ n. asks n.number;
    refuses = is_refused;
    handler = window_handler R;
    function = function;
    native = λ w h n c. outcome_of (native_outcome answer w h n c);
    make = λ p c w h f vs. make_form w h f vs;
    meets = λ p c w h f k. meets_form w h f k;
  }
