-- The definitions of a small host's calls: `console.log` keeps its arguments, and the order of a throw that nothing caught keeps what was thrown.
use Rattle.std.specs.Prelude.{ℕ, List, [], ◌∷◌, ◌++◌, Bool, true, false, Option, Some, None, cond, length, map, nat_eq, nat_le}
use Rattle.js_value.specs.Image.{image}
use Rattle.js_value.specs.declared.value.NativeId.{NativeId}
use Rattle.js_value.specs.declared.value.ObjId.{ObjId}
use Rattle.js_value.specs.declared.value.Value.{Value}
use Rattle.js_value.specs.declared.value.Value.TheVariants.{Undefined}
use Rattle.js_heap.specs.Objects.{with_object}
use Rattle.js_heap.specs.Roots.{id_of, root_number}
use Rattle.js_heap.specs.World.{World}
use Rattle.js_heap.specs.declared.class.Class.TheVariants.{Event}
use Rattle.js_heap.specs.declared.fault.TheConstants.{COUNT_LIMIT}
use Rattle.js_heap.specs.declared.root.Root.TheVariants.{EventPrototype}
use Rattle.js_host.specs.Images.{HostImages}
use Rattle.js_host.specs.Keeps.{HostNames}
use Rattle.js_host.specs.Names.{dispatch_names}
use Rattle.js_host.specs.Rows.{HostRows}
use Rattle.js_host.specs.declared.call.DispatchAt.{DispatchAt}
use Rattle.js_host.specs.declared.call.HostPut.{HostPut}
use Rattle.js_host.specs.declared.call.HostPut.TheVariants.{NotHost}
use Rattle.js_host.specs.declared.call.Input.{Input}
use Rattle.js_host.specs.declared.call.NativeCall.{NativeCall}
use Rattle.js_host.specs.declared.call.NextCall.{NextCall}
use Rattle.js_host.specs.declared.call.NextCall.TheVariants.{End}
use Rattle.js_host.specs.declared.call.Order.{Order}
use Rattle.js_host.specs.declared.call.Order.TheVariants as order
use Rattle.js_host.specs.declared.call.Outcome.{Outcome}
use Rattle.js_host.specs.declared.call.Outcome.TheVariants as outcome
use Rattle.js_host.specs.declared.call.Resume.{Resume}
use Rattle.console_host.specs.declared.host.ConsoleHost.{ConsoleHost}
use Rattle.console_host.specs.declared.line.Line.{Line}
use Rattle.console_host.specs.declared.line.Line.TheVariants as line
use Rattle.console_host.specs.declared.line.TheConstants.{CONSOLE_LOG}

-- one more line
abbrev pub with_line : ConsoleHost → Line → ConsoleHost
with_line h l = record h { lines = h.lines ++ l ∷ [] }

abbrev pub log_if : Bool → World → ConsoleHost → NativeCall → Outcome × World × ConsoleHost
log_if true w h c = (outcome.Value Undefined, w, with_line h (line.Log c.args))
log_if false w h c = (outcome.Throw Undefined, w, h)

abbrev pub is_log : NativeId → Bool
is_log id = nat_eq id.number CONSOLE_LOG

-- `console.log`; no other native is reached
abbrev pub native : World → ConsoleHost → NativeId → NativeCall → Outcome × World × ConsoleHost
native w h id c = log_if (is_log id) w h c

-- nothing is asked
abbrev pub give : World → ConsoleHost → NativeId → NativeCall → Input → Outcome × World × ConsoleHost
give w h id c i = (outcome.Value Undefined, w, h)

-- no callback is entered
abbrev pub resume : World → ConsoleHost → Resume → Value → Outcome × World × ConsoleHost
resume w h r v = (outcome.Value v, w, h)

abbrev pub get_own : World → ConsoleHost → ObjId → List ℕ → Option Value
get_own w h o x = None

abbrev pub put_own : World → ConsoleHost → ObjId → List ℕ → Value → HostPut × World × ConsoleHost
put_own w h o x v = (NotHost, w, h)

-- a dispatch calls nothing, and prevents nothing
abbrev pub dispatch_start : World → ConsoleHost → DispatchAt → DispatchAt × World × ConsoleHost
dispatch_start w h d = (d, w, h)

abbrev pub dispatch_next : World → ConsoleHost → DispatchAt → Option Value → NextCall × DispatchAt × World × ConsoleHost
dispatch_next w h d last = (End true, d, w, h)

-- an event object with this number, unless the heap is full
abbrev pub fresh_if : (full : Bool) → (number : ℕ) → World → ConsoleHost → ObjId → Option DispatchAt × World × ConsoleHost
fresh_if true n w h o = (None, w, h)
fresh_if false n w h o = (Some (record { target = o; event = id_of n }), with_object w Event (Some (id_of (root_number EventPrototype))), h)

abbrev pub fresh_at : (number : ℕ) → World → ConsoleHost → ObjId → Option DispatchAt × World × ConsoleHost
fresh_at n w h o = fresh_if (nat_le COUNT_LIMIT n) n w h o

abbrev pub fresh : World → ConsoleHost → ObjId → List ℕ → (bubbles cancelable : Bool) → Option DispatchAt × World × ConsoleHost
fresh w h o x bubbles cancelable = fresh_at (length w.objects) w h o

abbrev pub is_handler : World → ConsoleHost → ObjId → List ℕ → Bool
is_handler w h o x = false

abbrev pub takes : World → ConsoleHost → Order → Bool
takes w h (order.Uncaught v) = true
takes w h o = false

abbrev pub order_row : World → ConsoleHost → Order → Option Value × World × ConsoleHost
order_row w h (order.Uncaught v) = (None, w, with_line h (line.Uncaught v))
order_row w h o = (None, w, h)

abbrev pub console_rows : HostRows ConsoleHost DispatchAt
console_rows = record {
  native = native;
  give = give;
  resume = resume;
  get_own = get_own;
  put_own = put_own;
  start = dispatch_start;
  next = dispatch_next;
  fresh = fresh;
  is_handler = is_handler;
  takes = takes;
  order = order_row;
}

-- the values that a line shows
abbrev pub line_values : Line → List Value
line_values (line.Log vs) = vs
line_values (line.Uncaught v) = v ∷ []

abbrev pub lines_values : List Line → List Value
lines_values [] = []
lines_values (l ∷ ls) = line_values l ++ lines_values ls

abbrev pub held : ConsoleHost → List Value
held h = lines_values h.lines

abbrev pub console_names : HostNames ConsoleHost DispatchAt
console_names = record { host = held; dispatch = λ d. dispatch_names d [] }

abbrev pub plain_line : Line → Line
plain_line (line.Log vs) = line.Log (map image vs)
plain_line (line.Uncaught v) = line.Uncaught (image v)

abbrev pub plain_console : ConsoleHost → ConsoleHost
plain_console h = record h { lines = map plain_line h.lines }

abbrev pub console_images : HostImages ConsoleHost DispatchAt
console_images = record { host = plain_console; dispatch = λ d. d }
