use Rattle.std.proofs.Common.{◌≡◌, ◌<◌, length, set, sym, ap, subst, ◌∙◌, arith}
use Rattle.dom_tree.specs.Changes.{changed}
use Rattle.dom_tree.specs.Names.{with_value}
use Rattle.dom_tree.proofs.Items.{set_is_changed}
use Rattle.dom_tree.proofs.Named.{given}
use Rattle.dom_tree.proofs.attributes.Attributes.set.Goals as goal

pub index_mut-attribute-requires : goal.index_mut-attribute-requires
index_mut-attribute-requires c = omega (arith, (c.in-Some.ensures c.args.value).0, ap length c.deref.ensures.value)

pub returns-in-Some-clause-ok : goal.returns-in-Some-clause-ok
returns-in-Some-clause-ok c =
    let old = c.self.inside.items.items in
    let inside : c.in-Some.at < length old = subst (λ l. c.in-Some.at < length l) c.deref.ensures.value (c.in-Some.ensures c.args.value).0 in
    let is : with_value c.args.name c.args.value c.args.self.now ≡ changed (given c.args.value) c.in-Some.at old =
    ap (with_value c.args.name c.args.value) (sym (c.deref.ensures.value ∙ c.self.view_is)) ∙ (c.in-Some.ensures c.args.value).1 ∙ ap (changed (given c.args.value) c.in-Some.at) c.deref.ensures.value in
    ap (λ a. set old c.in-Some.at (given c.args.value a)) c.index_mut-attribute.ensures.value ∙ set_is_changed (given c.args.value) c.in-Some.at old c.index_mut-attribute.result.now inside ∙ sym is
