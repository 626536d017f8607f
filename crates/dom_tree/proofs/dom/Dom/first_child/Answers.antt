use Rattle.std.proofs.Common.{ap, subst, ◌∙◌}
use Rattle.dom_tree.specs.Nodes.{children_of, Fits}
use Rattle.dom_tree.specs.Order.{first_child}
use Rattle.dom_tree.specs.inner.Kept.{nodes_of}
use Rattle.dom_tree.proofs.Neighbours.{child_is}
use Rattle.dom_tree.proofs.dom.Dom.first_child.Goals as goal

pub returns-clause-there : goal.returns-clause-there
returns-clause-there c =
    child_is c.args.self.now (subst Fits c.self.view_is c.self.invariant.0.fits) c.args.node 0 c.first_child.result
    (c.first_child.ensures.is ∙ ap (λ l. first_child l c.args.node) (ap nodes_of c.deref.ensures.value ∙ c.self.view_is))
