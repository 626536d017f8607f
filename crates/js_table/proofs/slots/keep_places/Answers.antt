use Rattle.std.proofs.Common.{not, ap, ◌∙◌, rules}
use Rattle.std.specs.Map.{lookup}
use Rattle.indexmap.proofs.CallerLemmas.{filter-RetainsPairs}
use Rattle.js_value.specs.Same.{text_equal}
use Rattle.js_table.specs.Indices.{is_within}
use Rattle.js_table.proofs.ElementLemmas.{lookup-kept}
use Rattle.js_table.proofs.slots.keep_places.Goals as goal

pub returns : goal.returns
returns c = λ x.
    let kept = filter-RetainsPairs _ (λ e. not (is_within c.args.low c.args.high e.0)) _ (λ k v b w g t. search rules) _ _ c.retain.ensures.filtered in
    ap (lookup (text_equal x)) kept ∙ lookup-kept c.args.low c.args.high x c.args.places.now.entries
