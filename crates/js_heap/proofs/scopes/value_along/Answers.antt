use Rattle.std.proofs.Common.{ℕ, Option, None, ap, arith, sym, ◌∙◌}
use Rattle.std.specs.Option.{option_map}
use Rattle.js_value.specs.declared.value.Value.{Value}
use Rattle.js_heap.specs.Scopes.{names_in, parent_number, scope_number}
use Rattle.js_heap.specs.Names.{value_bound}
use Rattle.js_heap.proofs.ChainSteps.{leads_within, past, past_last}
use Rattle.js_heap.proofs.Walks.{scope_value}
use Rattle.js_heap.proofs.scopes.value_along.Goals as goal

pub loop-value-preserved : goal.loop-value-preserved
loop-value-preserved c =
    let ss = c.args.scopes.now in
    let n = c.loop-value.at.number in
    let s = c.index-scopes-at.result in
    let f : ℕ → Option Value = λ k. value_bound c.args.name.now (names_in c.args.scopes.now k) in
    let leads = ap (option_map scope_number) c.in-Some-parent.is in
    let below = leads_within parent_number ss c.requires.back n s c.in-Some-parent.parent.number c.loop-value.invariant.there c.index-scopes-at.is leads in
    let there = c.loop-value.invariant.there in
    record {
      there = omega (arith, below, there);
      same = c.loop-value.invariant.same ∙ past parent_number ss c.requires.back f n s c.in-Some-parent.parent.number there c.index-scopes-at.is (scope_value c.args.name.now ss n s None there c.index-scopes-at.is c.in_default.ensures) leads;
    }

pub returns-in-None : goal.returns-in-None
returns-in-None c =
    let ss = c.args.scopes.now in
    let n = c.loop-value.at.number in
    let s = c.index-scopes-at.result in
    let f : ℕ → Option Value = λ k. value_bound c.args.name.now (names_in c.args.scopes.now k) in
    let there = c.loop-value.invariant.there in
    sym (c.loop-value.invariant.same ∙ past_last parent_number ss c.requires.back f n s there c.index-scopes-at.is (scope_value c.args.name.now ss n s None there c.index-scopes-at.is c.in_default.ensures) (ap (option_map scope_number) c.in-None.is))
