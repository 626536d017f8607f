-- The small host keeps what every host keeps.
use Rattle.std.proofs.Common.{◌≡◌, ℕ, List, [], ◌∷◌, ◌++◌, Bool, true, false, Option, Some, None, length, nat_le, refl}
use Rattle.js_value.specs.declared.value.ObjId.{ObjId}
use Rattle.js_value.specs.declared.value.Value.{Value}
use Rattle.js_value.specs.declared.value.Value.TheVariants.{Ref, Undefined}
use Rattle.js_heap.specs.Closed.{Each}
use Rattle.js_heap.specs.Roots.{id_of, root_number}
use Rattle.js_heap.specs.World.{World}
use Rattle.js_heap.specs.declared.class.Class.TheVariants.{Event}
use Rattle.js_heap.specs.declared.fault.TheConstants.{COUNT_LIMIT}
use Rattle.js_heap.specs.declared.root.Root.TheVariants.{EventPrototype}
use Rattle.js_host.specs.Keeps.{AllPass, KeepsFresh, KeepsOutcome, KeepsValue, Lasting, Passes, RowsKeep, Test}
use Rattle.js_host.specs.Names.{call_names, option_names, order_names}
use Rattle.js_host.specs.declared.call.DispatchAt.{DispatchAt}
use Rattle.js_host.specs.declared.call.NativeCall.{NativeCall}
use Rattle.js_host.specs.declared.call.Order.{Order}
use Rattle.js_host.specs.declared.call.Order.TheVariants as order
use Rattle.js_host.proofs.Lists.{each-append, each-left, each-right}
use Rattle.js_host.proofs.Moves.{Chosen, keeps-chosen, object_then}
use Rattle.console_host.specs.Console.{console_names, console_rows, fresh_at, fresh_if, held, is_log, line_values, lines_values, log_if, order_row, takes, with_line}
use Rattle.console_host.specs.declared.host.ConsoleHost.{ConsoleHost}
use Rattle.console_host.specs.declared.line.Line.{Line}
use Rattle.console_host.specs.declared.line.Line.TheVariants as line

added-passes : (P : Value → Type 0) (ls : List Line) (l : Line) → Each P (lines_values ls) → Each P (line_values l) → Each P (lines_values (ls ++ l ∷ []))
added-passes P [] l a b = each-append P (line_values l) [] b tt
added-passes P (k ∷ ls) l a b =
    each-append P (line_values k) (lines_values (ls ++ l ∷ [])) (each-left P (line_values k) (lines_values ls) a)
    (added-passes P ls l (each-right P (line_values k) (lines_values ls) a) b)

undefined-passes : (ok : Test) → Lasting ok → (w : World) → Passes ok w Undefined
undefined-passes ok l w = l.primitive _ Undefined refl

log-keeps : (b : Bool) (w : World) (h : ConsoleHost) (c : NativeCall) → KeepsOutcome console_names w (call_names c (held h)) (log_if b w h c)
log-keeps true w h c = keeps-chosen w _ _ (λ ok l g.
    (undefined-passes ok l w, added-passes (Passes ok w) h.lines (line.Log c.args) (each-right (Passes ok w) c.args (held h) g.values.1) (each-left (Passes ok w) c.args (held h) g.values.1)))
log-keeps false w h c = keeps-chosen w _ _ (λ ok l g. (undefined-passes ok l w, each-right (Passes ok w) c.args (held h) g.values.1))

last-chosen : (w : World) (o : Option Value) (vs : List Value) → Chosen w (option_names o vs) vs
last-chosen w None vs ok l g = g.values
last-chosen w (Some v) vs ok l g = g.values.1

fresh-keeps : (b : Bool) (w : World) (h : ConsoleHost) (o : ObjId) → KeepsFresh console_names w (Ref o ∷ held h) (fresh_if b (length w.objects) w h o)
fresh-keeps true w h o = keeps-chosen w _ _ (λ ok l g. g.values.1)
fresh-keeps false w h o = object_then w _ Event (Some (id_of (root_number EventPrototype))) _ _ refl (λ ok l g. (g.roots EventPrototype, tt))
    (keeps-chosen _ _ _ (λ ok l g. (g.values.1.0, (g.values.0, g.values.1.1))))

order-keeps : (w : World) (h : ConsoleHost) (o : Order) → KeepsValue console_names w (order_names o (held h)) (order_row w h o)
order-keeps w h (order.Uncaught v) = keeps-chosen w _ _ (λ ok l g. added-passes (Passes ok w) h.lines (line.Uncaught v) g.values.1 (g.values.0, tt))
order-keeps w h (order.Say t) = keeps-chosen w _ _ (λ ok l g. g.values)
order-keeps w h (order.Clock t) = keeps-chosen w _ _ (λ ok l g. g.values)
order-keeps w h (order.SetValue n t) = keeps-chosen w _ _ (λ ok l g. g.values)
order-keeps w h (order.Fire n) = keeps-chosen w _ _ (λ ok l g. g.values)
order-keeps w h (order.Reply n s t) = keeps-chosen w _ _ (λ ok l g. g.values)
order-keeps w h (order.Fail n) = keeps-chosen w _ _ (λ ok l g. g.values)
order-keeps w h (order.Handler o x v) = keeps-chosen w _ _ (λ ok l g. g.values.1.1)

pub console_keeps : RowsKeep console_names console_rows
console_keeps = record {
  native = λ w h id c. log-keeps (is_log id) w h c;
  give = λ w h id c i a. keeps-chosen w _ _ (λ ok l g. (undefined-passes ok l w, each-right (Passes ok w) c.args (held h) g.values.1));
  resume = λ w h r v. keeps-chosen w _ _ (λ ok l g. (g.values.0, each-right (Passes ok w) r.kept (held h) g.values.1));
  get_own = λ w h o x. keeps-chosen w _ _ (λ ok l g. g.values.1);
  put_own = λ w h o x v. keeps-chosen w _ _ (λ ok l g. g.values.1.1);
  start = λ w h d. keeps-chosen w _ _ (λ ok l g. g.values);
  next = λ w h d o. keeps-chosen w _ _ (last-chosen w o _);
  fresh = λ w h o x b c. fresh-keeps (nat_le COUNT_LIMIT (length w.objects)) w h o;
  order = λ w h o t. order-keeps w h o;
}
