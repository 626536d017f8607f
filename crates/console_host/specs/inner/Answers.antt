-- The small host asks nothing, and its calls answer.
use Rattle.std.proofs.Common.{◌≡◌, Bool, true, false, refl}
use Rattle.js_value.specs.declared.value.NativeId.{NativeId}
use Rattle.js_heap.specs.World.{World}
use Rattle.js_host.specs.Asking.{AsksOnly, RowsAnswer}
use Rattle.js_host.specs.declared.call.NativeCall.{NativeCall}
use Rattle.console_host.specs.Console.{console_rows, is_log, log_if}
use Rattle.console_host.specs.declared.host.ConsoleHost.{ConsoleHost}

log-answers : (b : Bool) (id : NativeId) (w : World) (h : ConsoleHost) (c : NativeCall)
    → AsksOnly id w h (log_if b w h c).0 (log_if b w h c).1 (log_if b w h c).2
log-answers true id w h c = tt
log-answers false id w h c = tt

pub console_answers : RowsAnswer console_rows
console_answers = record {
  native = λ w h id c. log-answers (is_log id) id w h c;
  give = λ w h id c i a. refl;
  resume = λ w h r v. refl;
  put_own = λ w h o x v. refl;
  unheld = λ w h o x v. (refl, refl);
  uncaught = λ w h v. refl;
  handler = λ w h o x v set. set;
}
