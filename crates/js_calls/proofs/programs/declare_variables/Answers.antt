use Rattle.std.proofs.Common.{◌+◌, ap, drop, ◌∙◌}
use Rattle.js_reference.proofs.There.{still_there}
use Rattle.js_reference.specs.Hosted.{hosted}
use Rattle.js_calls.specs.Programs.{declare_variables, window_handler}
use Rattle.js_calls.proofs.CallSteps.{later_twice}
use Rattle.js_calls.proofs.Programmed.{variable_step}
use Rattle.js_calls.proofs.programs.declare_variables.Goals as goal

pub loop-name-preserved : goal.loop-name-preserved
loop-name-preserved g c =
    let O = hosted g.H.Host.rows in
    let hand = window_handler g.H.Host.rows in
    let h = c.args.host.now in
    let before = c.loop-name.heap in
    let after = c.declare_variable.new.heap in
    let i = c.loop-name.name-index in
    let xs = c.args.names.now in
    let step = c.in_ok-declare_variable.ensures in
    record {
      there = still_there before after (g.H.Host.names.host h) step.more.objects
          c.loop-name.invariant.there;
      is = ap (λ w. declare_variables O hand (drop (i + 1) xs) w h) step.is
          ∙ variable_step O hand xs i c.name-item.result before h c.loop-name-test.true
          c.name-item.is
          ∙ c.loop-name.invariant.is;
      later = later_twice c.args.heap.now before after c.loop-name.invariant.later step.more;
    }
