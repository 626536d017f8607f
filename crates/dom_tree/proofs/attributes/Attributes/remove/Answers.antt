use Rattle.std.proofs.Common.{not, ap, ◌∙◌, rules}
use Rattle.std.specs.Str.{bytes_eq}
use Rattle.std.proofs.lemmas.Fn.{filter_same}
use Rattle.dom_tree.specs.Names.{without_name}
use Rattle.dom_tree.proofs.attributes.Attributes.remove.Goals as goal

pub returns : goal.returns
returns c = filter_same _ (λ a. not (bytes_eq a.name c.args.name.now)) _ (λ x b q says. search rules) _ _ c.retain.ensures.filtered ∙ ap (without_name c.args.name.now) c.self.view_is
