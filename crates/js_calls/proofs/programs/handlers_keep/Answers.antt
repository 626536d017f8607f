use Rattle.std.proofs.Common.{◌≡◌, ◌<◌, ◌∷◌, length, ap, sym, arith}
use Rattle.js_value.specs.declared.value.Value.TheVariants.{Ref}
use Rattle.js_host.specs.Names.{option_names}
use Rattle.js_host.specs.Tests.{there}
use Rattle.js_host.specs.declared.call.Order.TheVariants as order
use Rattle.js_reference.proofs.There.{all_there, are_there, no_fewer}
use Rattle.js_calls.proofs.programs.handlers_keep.Goals as goal

pub returns : goal.returns
returns g c =
    let w = c.args.heap.now in
    let number : c.root-last.result.number ≡ 15 = c.root-last.ensures.number in
    let among = c.root-last.ensures.there in
    let last : 15 < length w.objects = omega (arith, number, among) in
    let means = c.there_is_among_the_objects.ensures in
    let R = g.H.Host.rows in
    record {
      taken = λ h o x v is. g.met.H.Host.answers.handler w h o x v is;
      there = λ h o x v is t.
          let r = R.order w h (order.Handler o x v) in
          let held = g.H.Host.names.host h in
          let all = all_there w (means w) c.object_count-objects.ensures.closed last
          (Ref o ∷ v ∷ held) t in
          are_there r.1 (means r.1) (option_names r.0 (g.H.Host.names.host r.2))
          ((g.met.H.Host.keeps.order w h (order.Handler o x v)
          (g.met.H.Host.answers.handler w h o x v is)).passes there
          c.tests_last.ensures.there all);
      later = λ h o x v is.
          let r = R.order w h (order.Handler o x v) in
          let grows = (g.met.H.Host.keeps.order w h (order.Handler o x v)
          (g.met.H.Host.answers.handler w h o x v is)).grows in
          record { objects = no_fewer w r.1 grows; scopes = ap length (sym grows.scopes) };
    }
