use Rattle.std.proofs.Common.{false, ◌∙◌}
use Rattle.js_tree.specs.Names.{joined, names_of}
use Rattle.js_tree.proofs.script.Script.program_scope.Goals as goal

pub returns : goal.returns
returns c = λ bodies t h.
    let functions = c.in_ok-functions.ensures bodies t h in
    let listed = c.deref.ensures.value ∙ functions in
    let vars = c.deref-2.ensures.value ∙ c.in_ok-vars.ensures bodies t h in
    let all = c.in_ok-add_all.ensures ∙ (λ i. joined ((c.in_ok-add_functions.ensures ∙ (λ j. joined (c.new-names.ensures j) (names_of (listed j)))) i) (vars i)) in
    λ i. record { names = (c.into_list.ensures ∙ all) i; functions = (c.of.ensures ∙ functions) i; has_arguments = false; has_own_name = false }
