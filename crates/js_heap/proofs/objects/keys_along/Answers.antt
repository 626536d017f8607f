use Rattle.std.proofs.Common.{Some, ap, arith}
use Rattle.std.specs.Option.{option_map}
use Rattle.js_heap.specs.Keys.{properties_along}
use Rattle.js_heap.specs.Objects.{id_number, prototype_number}
use Rattle.js_heap.proofs.ChainSteps.{leads_within}
use Rattle.js_heap.proofs.Walks.{names_more, names_whole}
use Rattle.js_heap.proofs.objects.keys_along.Goals as goal

pub loop-names-preserved : goal.loop-names-preserved
loop-names-preserved c =
    let os = c.args.objects.now in
    let n = c.loop-names.at.number in
    let o = c.index-objects-at.result in
    let there = c.loop-names.invariant.there in
    let leads = ap (option_map id_number) c.in-Some.is in
    let below = leads_within prototype_number os c.requires.back n o c.in-Some.prototype.number there c.index-objects-at.is leads in
    record {
      there = omega (arith, below, there);
      same = names_more os c.requires.back n o (Some c.in-Some.prototype.number) (properties_along os (Some c.args.obj.number)) c.loop-names.seen.keys c.loop-names.names c.list_names.new.seen.keys c.list_names.new.names
          there c.index-objects-at.is leads c.in_ok-list_names.ensures c.loop-names.invariant.same;
    }

pub returns-in-None : goal.returns-in-None
returns-in-None c =
    let os = c.args.objects.now in
    let n = c.loop-names.at.number in
    let o = c.index-objects-at.result in
    names_whole os c.requires.back n o (properties_along os (Some c.args.obj.number)) c.loop-names.seen.keys c.loop-names.names c.list_names.new.seen.keys c.list_names.new.names
    c.loop-names.invariant.there c.index-objects-at.is (ap (option_map id_number) c.in-None.is) c.in_ok-list_names.ensures c.loop-names.invariant.same
