use Rattle.std.proofs.Common.{[], ◌∷◌, if◌then◌else◌, ◌&&◌, ap, ◌∙◌}
use Rattle.std.specs.Prelude.{option_to_list}
use Rattle.std.specs.Option.{option_copied}
use Rattle.js_tree.specs.Names.{arguments, is_among, is_new, is_own_name, joined, names_of}
use Rattle.js_tree.proofs.script.Script.call_scope.Goals as goal

pub returns : goal.returns
returns c = λ bodies t h.
    let functions = c.in_ok-functions.ensures bodies t h in
    let listed = c.deref.ensures.value ∙ functions in
    let parameters = c.in_ok-add_all.ensures ∙ ap (λ l. joined l c.args.parameters.now) c.new-names.ensures in
    let called = c.in_ok-add_functions.ensures ∙ (λ i. joined (parameters i) (names_of (listed i))) in
    let texts = c.deref-2.ensures.value ∙ c.in_ok-variables.ensures bodies t h in
    let named = c.in_ok-has_arguments.ensures.ok ∙ (λ i. joined (called i) (if is_among arguments (texts i) then arguments ∷ [] else [])) in
    let object = c.in_ok-has_arguments.ensures.new ∙ (λ i. is_among arguments (texts i) && is_new (called i) arguments) in
    let vars = c.deref-3.ensures.value ∙ c.in_ok-vars.ensures bodies t h in
    let bound = c.in_ok-add_all-2.ensures ∙ (λ i. joined (named i) (vars i)) in
    let own = c.in_ok-has_own_name.ensures.new ∙ ap (λ l. is_own_name l (option_copied c.args.own)) bound in
    let all = c.into_list.ensures ∙ c.in_ok-has_own_name.ensures.ok ∙ ap (λ l. joined l (option_to_list (option_copied c.args.own))) bound in
    λ i. record { names = all i; functions = (c.of.ensures ∙ functions) i; has_arguments = object i; has_own_name = own i }
