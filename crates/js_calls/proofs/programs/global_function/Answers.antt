use Rattle.std.proofs.Common.{◌≡◌, false, ap, sym, ◌∙◌}
use Rattle.std.proofs.lemmas.Result.{IfOk-weaker}
use Rattle.js_heap.specs.Roots.{id_of}
use Rattle.js_reference.specs.Hosted.{hosted}
use Rattle.js_reference.specs.Puts.{window, write_object}
use Rattle.js_stmt.proofs.Lists.{other}
use Rattle.js_calls.specs.Programs.{of_pair, window_handler}
use Rattle.js_calls.proofs.programs.global_function.Goals as goal

pub returns-clause-value : goal.returns-clause-value
returns-clause-value g c =
    let R = g.H.Host.rows in
    let w = c.args.heap.now in
    let h = c.args.host.now in
    let x = c.args.name.now in
    let f = c.args.function in
    let place : c.root-window.result ≡ window = ap id_of c.root-window.ensures.number in
    let none : R.is_handler w h window x ≡ false =
    ap (λ o. R.is_handler w h o x) (sym place) ∙ sym c.is_handler.ensures
    ∙ c.if-is_handler.false in
    IfOk-weaker c.write_object.result _ _
    (λ a is. sym (other (R.is_handler w h window x)
    (of_pair (hosted R) (window_handler R) f (window_handler R w h x f))
    (write_object (hosted R) w h window x f) none)
    ∙ ap (λ o. write_object (hosted R) w h o x f) (sym place) ∙ is)
    c.write_object.ensures.value
