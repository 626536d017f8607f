use Rattle.std.proofs.Common.{ap, subst, ◌∙◌}
use Rattle.dom_tree.specs.Nodes.{Fits}
use Rattle.dom_tree.specs.Order.{node_by_path}
use Rattle.dom_tree.specs.inner.Kept.{nodes_of}
use Rattle.dom_tree.proofs.Neighbours.{by_path_there}
use Rattle.dom_tree.proofs.Walks.{some_nodes}
use Rattle.dom_tree.proofs.dom.Dom.by_path.Goals as goal

pub returns-clause-there : goal.returns-clause-there
returns-clause-there c =
    let fits = subst Fits c.self.view_is c.self.invariant.0.fits in
    by_path_there c.args.self.now fits c.args.path.now c.node_by_path.result (some_nodes c.args.self.now fits) (c.node_by_path.ensures ∙ ap (λ l. node_by_path l c.args.path.now) (ap nodes_of c.deref.ensures.value ∙ c.self.view_is))
