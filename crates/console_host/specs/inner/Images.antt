-- The small host's definitions commute with the plain image.
use Rattle.std.proofs.Common.{◌≡◌, ℕ, List, [], ◌∷◌, ◌++◌, Bool, true, false, Option, Some, None, length, map, nat_le, refl, ap, sym, ◌∙◌}
use Rattle.std.specs.Option.{option_map}
use Rattle.std.proofs.lemmas.List.{map-append, length-map}
use Rattle.js_value.specs.declared.value.ObjId.{ObjId}
use Rattle.js_value.specs.Image.{image}
use Rattle.js_value.specs.declared.value.Value.{Value}
use Rattle.js_value.specs.declared.value.Value.TheVariants.{Undefined}
use Rattle.js_heap.specs.Roots.{id_of}
use Rattle.js_heap.specs.declared.object.Object.{Object}
use Rattle.js_heap.specs.World.{World}
use Rattle.js_heap.specs.declared.fault.TheConstants.{COUNT_LIMIT}
use Rattle.js_host.specs.Images.{RowsCommute, plain_after, plain_call, plain_object, plain_order, plain_outcome, plain_scope, plain_world}
use Rattle.js_host.specs.declared.call.DispatchAt.{DispatchAt}
use Rattle.js_host.specs.declared.call.NativeCall.{NativeCall}
use Rattle.js_host.specs.declared.call.Order.{Order}
use Rattle.js_host.specs.declared.call.Order.TheVariants as order
use Rattle.js_host.specs.declared.call.Outcome.TheVariants as outcome
use Rattle.console_host.specs.Console.{console_images, console_rows, fresh_at, fresh_if, is_log, log_if, order_row, plain_console, plain_line, takes}
use Rattle.console_host.specs.declared.host.ConsoleHost.{ConsoleHost}
use Rattle.console_host.specs.declared.line.Line.{Line}
use Rattle.console_host.specs.declared.line.Line.TheVariants as line

-- the same host with these lines
abbrev lines_are : ConsoleHost → List Line → ConsoleHost
lines_are h ls = record h { lines = ls }

line-plain : (h : ConsoleHost) (l : Line) → lines_are h (map plain_line h.lines ++ plain_line l ∷ []) ≡ plain_console (lines_are h (h.lines ++ l ∷ []))
line-plain h l = ap (lines_are h) (sym (map-append plain_line h.lines (l ∷ [])))

log-plain : (b : Bool) (w : World) (h : ConsoleHost) (c : NativeCall)
    → log_if b (plain_world w) (plain_console h) (plain_call c) ≡ plain_after console_images plain_outcome (log_if b w h c)
log-plain true w h c = ap (λ k. (outcome.Value Undefined, plain_world w, k)) (line-plain h (line.Log c.args))
log-plain false w h c = refl

abbrev objects_are : World → List Object → World
objects_are w os = record { objects = os; scopes = map plain_scope w.scopes }

fresh-plain : (b : Bool) (n : ℕ) (w : World) (h : ConsoleHost) (o : ObjId)
    → fresh_if b n (plain_world w) (plain_console h) o ≡ plain_after console_images (λ d. d) (fresh_if b n w h o)
fresh-plain true n w h o = refl
fresh-plain false n w h o =
    ap (λ os. (Some (record { target = o; event = id_of n }), objects_are w os, plain_console h)) (sym (map-append plain_object w.objects _))

takes-plain : (w : World) (h : ConsoleHost) (o : Order) → takes (plain_world w) (plain_console h) (plain_order o) ≡ takes w h o
takes-plain w h (order.Uncaught v) = refl
takes-plain w h (order.Say t) = refl
takes-plain w h (order.Clock t) = refl
takes-plain w h (order.SetValue n t) = refl
takes-plain w h (order.Fire n) = refl
takes-plain w h (order.Reply n s t) = refl
takes-plain w h (order.Fail n) = refl
takes-plain w h (order.Handler o x v) = refl

order-plain : (w : World) (h : ConsoleHost) (o : Order)
    → order_row (plain_world w) (plain_console h) (plain_order o) ≡ plain_after console_images (option_map image) (order_row w h o)
order-plain w h (order.Uncaught v) = ap (λ k. (None, plain_world w, k)) (line-plain h (line.Uncaught v))
order-plain w h (order.Say t) = refl
order-plain w h (order.Clock t) = refl
order-plain w h (order.SetValue n t) = refl
order-plain w h (order.Fire n) = refl
order-plain w h (order.Reply n s t) = refl
order-plain w h (order.Fail n) = refl
order-plain w h (order.Handler o x v) = refl

pub console_commutes : RowsCommute console_images console_rows
console_commutes = record {
  native = λ w h id c. log-plain (is_log id) w h c;
  give = λ w h id c i a. refl;
  resume = λ w h r v. refl;
  get_own = λ w h o x. refl;
  put_own = λ w h o x v. refl;
  start = λ w h d. refl;
  next = λ w h d o. refl;
  fresh = λ w h o x b c.
      ap (λ n. fresh_at n (plain_world w) (plain_console h) o) (length-map w.objects plain_object)
      ∙ fresh-plain (nat_le COUNT_LIMIT (length w.objects)) (length w.objects) w h o;
  is_handler = λ w h o x. refl;
  takes = takes-plain;
  order = λ w h o t. order-plain w h o;
}
