use Rattle.std.proofs.Common.{◌≡◌, ◌<◌, ◌∷◌, length, arith}
use Rattle.js_value.specs.declared.value.Value.TheVariants.{Ref}
use Rattle.js_host.specs.Names.{option_names}
use Rattle.js_host.specs.Tests.{there}
use Rattle.js_reference.proofs.There.{all_there, are_there}
use Rattle.js_reference.proofs.own.hosted_are_there.Goals as goal

pub returns : goal.returns
returns g c = λ h o x t.
    let w = c.args.heap.now in
    let number : c.root-last.result.number ≡ 15 = c.root-last.ensures.number in
    let among = c.root-last.ensures.there in
    let last : 15 < length w.objects = omega (arith, number, among) in
    let means = c.there_is_among_the_objects.ensures w in
    let held = g.H.Host.names.host h in
    let all = all_there w means c.object_count-objects.ensures.closed last (Ref o ∷ held) t in
    are_there w means (option_names (g.H.Host.rows.get_own w h o x) held)
    ((g.met.H.Host.keeps.get_own w h o x).passes there c.tests_last.ensures.there all)
