use Rattle.std.proofs.Common.{ap, subst, ◌∙◌}
use Rattle.dom_tree.specs.Nodes.{Fits}
use Rattle.dom_tree.specs.Order.{node_by_id}
use Rattle.dom_tree.specs.inner.Kept.{nodes_of}
use Rattle.dom_tree.proofs.Neighbours.{by_id_there}
use Rattle.dom_tree.proofs.dom.Dom.by_id.Goals as goal

pub returns-clause-there : goal.returns-clause-there
returns-clause-there c =
    by_id_there c.args.self.now (subst Fits c.self.view_is c.self.invariant.0.fits) c.args.id.now c.node_by_id.result (c.node_by_id.ensures ∙ ap (λ l. node_by_id l c.args.id.now) (ap nodes_of c.deref.ensures.value ∙ c.self.view_is))
