use Rattle.std.proofs.Common.{◌≡◌, ◌<◌, ◌∷◌, length, ap, sym, arith}
use Rattle.js_value.specs.declared.value.Value.TheVariants.{Ref}
use Rattle.js_host.specs.Names.{put_names}
use Rattle.js_host.specs.Tests.{there}
use Rattle.js_reference.proofs.There.{all_there, are_there, no_fewer}
use Rattle.js_reference.proofs.writes.host_writes_keep.Goals as goal

pub returns : goal.returns
returns g c =
    let w = c.args.heap.now in
    let number : c.root-last.result.number ≡ 15 = c.root-last.ensures.number in
    let among = c.root-last.ensures.there in
    let last : 15 < length w.objects = omega (arith, number, among) in
    let means = c.there_is_among_the_objects.ensures in
    record {
      there = λ h o x v t.
          let r = g.H.Host.rows.put_own w h o x v in
          let held = g.H.Host.names.host h in
          let all = all_there w (means w) c.object_count-objects.ensures.closed last (Ref o ∷ v ∷ held) t in
          are_there r.1 (means r.1) (put_names r.0 (g.H.Host.names.host r.2))
          ((g.met.H.Host.keeps.put_own w h o x v).passes there c.tests_last.ensures.there all);
      more = λ h o x v. no_fewer w (g.H.Host.rows.put_own w h o x v).1 (g.met.H.Host.keeps.put_own w h o x v).grows;
      later = λ h o x v.
          let grows = (g.met.H.Host.keeps.put_own w h o x v).grows in
          record { objects = no_fewer w (g.H.Host.rows.put_own w h o x v).1 grows; scopes = ap length (sym grows.scopes) };
      unheld = λ h o x v. g.met.H.Host.answers.unheld w h o x v;
    }
