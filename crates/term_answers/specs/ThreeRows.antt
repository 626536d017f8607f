-- Three rows over the small host: a list of statements, a call of `console.log` for an array, and
-- `throw`.
use Rattle.std.specs.Prelude.{List, [], Bool, true, false, None, slice_get, unwrap_or}
use Rattle.js_value.specs.declared.value.NativeId.{NativeId}
use Rattle.js_value.specs.declared.value.Value.{Value}
use Rattle.js_value.specs.declared.value.Value.TheVariants as value
use Rattle.js_heap.specs.World.{World}
use Rattle.js_host.specs.Images.{plain_world}
use Rattle.js_host.specs.declared.call.Callback.{Callback}
use Rattle.js_host.specs.declared.call.NativeCall.{NativeCall}
use Rattle.js_tree.specs.Trees.{Tree}
use Rattle.js_tree.specs.declared.production.Production.{Production}
use Rattle.js_tree.specs.declared.production.Production.TheVariants as production
use Rattle.console_host.specs.Console.{console_rows, plain_console}
use Rattle.console_host.specs.declared.host.ConsoleHost.{ConsoleHost}
use Rattle.console_host.specs.declared.line.TheConstants.{CONSOLE_LOG}
use Rattle.js_term.specs.Calls.{Calling, call_step}
use Rattle.js_term.specs.Images.{Images}
use Rattle.js_term.specs.Operands.{Labels}
use Rattle.js_term.specs.Place.{Place, Placed}
use Rattle.js_term.specs.Table.{Step, Table}
use Rattle.js_term.specs.Table.Step.{Gives}
use Rattle.js_term.specs.Term.{Term}
use Rattle.js_term.specs.Term.Term.{Val, Stop}
use Rattle.js_term.specs.declared.completion.Completion.{Completion}
use Rattle.js_term.specs.declared.completion.Completion.TheVariants.{Throw as Thrown}
use Rattle.js_term.specs.declared.context.Context.{Context}
use Rattle.term_answers.specs.declared.rows.Row.{Row}
use Rattle.term_answers.specs.declared.rows.Row.TheVariants.{Statements, Log, Throw}

-- a node's row: arrays are lines of the console
abbrev pub row_of : Production → Row
row_of production.Array = Log
row_of production.Throw = Throw
row_of p = Statements

abbrev pub placed_row : Labels → Place → Production → Tree → Placed Row
placed_row ls p q ts = record { place = p; row = row_of q }

abbrev pub has_no_step : Row → Bool
has_no_step Statements = true
has_no_step r = false

abbrev pub is_statements : Placed Row → Bool
is_statements r = has_no_step r.row

abbrev pub thrown : World → ConsoleHost → Value → Step (Placed Row) ConsoleHost
thrown w h v = Gives (Stop (Thrown v)) w h

-- what the rows give for calls: nothing but natives is called
abbrev pub calling : Calling (Placed Row) ConsoleHost
calling = record {
  native = console_rows.native;
  entered = λ p w h f c. thrown w h value.Undefined;
  again = λ p f c. Val value.Undefined;
  waits = λ p c q. Val value.Undefined;
  refused = λ w h. thrown w h value.Undefined;
}

abbrev pub answers : Place → Callback → Term (Placed Row)
answers p c = Val value.Undefined

-- `console.log`, and a call of it with these arguments
abbrev pub log_id : NativeId
log_id = record { number = CONSOLE_LOG }

abbrev pub log_call : List Value → NativeCall
log_call vs = record { construct = false; this = value.Undefined; args = vs }

abbrev pub throw_first : World → ConsoleHost → List Value → Step (Placed Row) ConsoleHost
throw_first w h vs = thrown w h (unwrap_or (slice_get vs 0) value.Undefined)

abbrev pub made_row : Place → World → ConsoleHost → Row → List Value → Step (Placed Row) ConsoleHost
made_row p w h Statements vs = Gives (Val value.Undefined) w h
made_row p w h Log vs = call_step calling p w h (value.Native log_id) (log_call vs)
made_row p w h Throw vs = throw_first w h vs

abbrev pub three_rows : Table (Placed Row) ConsoleHost
three_rows = record {
  no_step = is_statements;
  inner = λ r c. c;
  is_early = λ r vs. false;
  early = λ c w h r vs ts. Gives (Val value.Undefined) w h;
  make = λ c w h r vs. made_row r.place w h r.row vs;
  meets = λ c w h r k. Gives (Stop k) w h;
  enters = λ c w h r vs. None;
  before = λ w h f r vs. None;
  behind = λ h f stopped. None;
}

abbrev pub log_row : Place → Placed Row
log_row p = record { place = p; row = Log }

abbrev pub three_images : Images (Placed Row) ConsoleHost
three_images = record { row = λ r. r; world = plain_world; host = plain_console }
