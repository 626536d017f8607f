-- The three rows commute with the plain image.
use Rattle.std.proofs.Common.{◌≡◌, List, [], ◌∷◌, Bool, true, false, Option, Some, None, cond, map, refl, ap}
use Rattle.js_value.specs.Image.{image}
use Rattle.js_value.specs.declared.value.Value.{Value}
use Rattle.js_value.specs.declared.value.Value.TheVariants.{Undefined}
use Rattle.js_heap.specs.World.{World}
use Rattle.js_host.specs.Images.{plain_world}
use Rattle.console_host.specs.Console.{console_rows, plain_console}
use Rattle.console_host.specs.declared.host.ConsoleHost.{ConsoleHost}
use Rattle.console_host.specs.inner.Images.{console_commutes}
use Rattle.js_term.specs.Calls.{is_refused, native_step}
use Rattle.js_term.specs.Images.{TablesCommute, plain_step}
use Rattle.js_term.specs.Place.{Place}
use Rattle.term_answers.specs.ThreeRows.{calling, log_call, log_id, made_row, three_images, three_rows, thrown}
use Rattle.term_answers.specs.declared.rows.Row.{Row}
use Rattle.term_answers.specs.declared.rows.Row.TheVariants.{Statements, Log, Throw}

log-plain : (b : Bool) (p : Place) (w : World) (h : ConsoleHost) (vs : List Value)
    → cond b (thrown (plain_world w) (plain_console h) Undefined)
    (native_step calling p (console_rows.native (plain_world w) (plain_console h) log_id (log_call (map image vs))))
    ≡ plain_step three_rows three_rows three_images (cond b (thrown w h Undefined) (native_step calling p (console_rows.native w h log_id (log_call vs))))
log-plain true p w h vs = refl
log-plain false p w h vs = ap (native_step calling p) (console_commutes.native w h log_id (log_call vs))

made-plain : (p : Place) (w : World) (h : ConsoleHost) (r : Row) (vs : List Value)
    → made_row p (plain_world w) (plain_console h) r (map image vs) ≡ plain_step three_rows three_rows three_images (made_row p w h r vs)
made-plain p w h Statements vs = refl
made-plain p w h Log vs = log-plain (is_refused log_id false) p w h vs
made-plain p w h Throw [] = refl
made-plain p w h Throw (v ∷ vs) = refl

pub three-rows-commute : TablesCommute three_rows three_rows three_images
three-rows-commute = record {
  no_step = λ r. refl;
  inner = λ r c. refl;
  make = λ c w h r vs n e. made-plain r.place w h r.row vs;
  is_early = λ r vs. refl;
  early = λ c w h r vs ts. refl;
  meets = λ c w h r k. refl;
  late = λ r vs e. refl;
  free = λ c w h r vs e. refl;
  plain_enters = λ c w h r vs. refl;
  entry = λ c w h r vs e g. cc;
  before = λ w h f r vs l g. cc;
  behind = λ h k f stopped g. cc;
}
