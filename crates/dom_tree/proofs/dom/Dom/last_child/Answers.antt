use Rattle.std.proofs.Common.{◌-◌, length, ap, subst, ◌∙◌}
use Rattle.dom_tree.specs.Nodes.{children_of, Fits}
use Rattle.dom_tree.specs.Order.{last_child}
use Rattle.dom_tree.specs.inner.Kept.{nodes_of}
use Rattle.dom_tree.proofs.Neighbours.{child_is}
use Rattle.dom_tree.proofs.dom.Dom.last_child.Goals as goal

pub returns-clause-there : goal.returns-clause-there
returns-clause-there c =
    child_is c.args.self.now (subst Fits c.self.view_is c.self.invariant.0.fits) c.args.node (length (children_of c.args.self.now c.args.node) - 1) c.last_child.result
    (c.last_child.ensures ∙ ap (λ l. last_child l c.args.node) (ap nodes_of c.deref.ensures.value ∙ c.self.view_is))
