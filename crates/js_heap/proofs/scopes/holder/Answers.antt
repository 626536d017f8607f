use Rattle.std.proofs.Common.{◌≡◌, ℕ, Option, false, is_some, refl, ap, arith, rules, sym, ◌∙◌}
use Rattle.std.specs.Option.{option_map}
use Rattle.js_heap.specs.Scopes.{names_in, number_if, parent_number, scope_number}
use Rattle.js_heap.specs.Names.{value_bound}
use Rattle.js_heap.proofs.ChainSteps.{leads_within, past, past_last}
use Rattle.js_heap.proofs.Walks.{scope_value, unnumbered}
use Rattle.js_heap.proofs.scopes.holder.Goals as goal

pub loop-here-preserved : goal.loop-here-preserved
loop-here-preserved c =
    let ss = c.args.scopes.now in
    let n = c.loop-here.at.number in
    let s = c.index-scopes-at.result in
    let f : ℕ → Option ℕ = λ k. number_if (is_some (value_bound c.args.name.now (names_in c.args.scopes.now k))) k in
    let there = c.loop-here.invariant.there in
    let gone : is_some (value_bound c.args.name.now c.index-scopes-at.result.names) ≡ false = search rules in
    let unnamed = ap is_some (scope_value c.args.name.now ss n s (value_bound c.args.name.now s.names) there c.index-scopes-at.is refl) ∙ gone in
    let leads = ap (option_map scope_number) c.in-Some.is in
    let below = leads_within parent_number ss c.requires.back n s c.in-Some.parent.number there c.index-scopes-at.is leads in
    record {
      there = omega (arith, below, there);
      same = c.loop-here.invariant.same ∙ past parent_number ss c.requires.back f n s c.in-Some.parent.number there c.index-scopes-at.is (unnumbered _ n unnamed) leads;
    }

pub returns-in-None-clause-holder : goal.returns-in-None-clause-holder
returns-in-None-clause-holder c =
    let ss = c.args.scopes.now in
    let n = c.loop-here.at.number in
    let s = c.index-scopes-at.result in
    let f : ℕ → Option ℕ = λ k. number_if (is_some (value_bound c.args.name.now (names_in c.args.scopes.now k))) k in
    let there = c.loop-here.invariant.there in
    let gone : is_some (value_bound c.args.name.now c.index-scopes-at.result.names) ≡ false = search rules in
    let unnamed = ap is_some (scope_value c.args.name.now ss n s (value_bound c.args.name.now s.names) there c.index-scopes-at.is refl) ∙ gone in
    sym (c.loop-here.invariant.same ∙ past_last parent_number ss c.requires.back f n s there c.index-scopes-at.is (unnumbered _ n unnamed) (ap (option_map scope_number) c.in-None.is))
