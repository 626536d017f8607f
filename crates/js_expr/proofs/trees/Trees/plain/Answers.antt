use Rattle.js_expr.proofs.Making.{node_fits, node_within, plain_built}
use Rattle.js_expr.proofs.Results.{weaker_fact}
use Rattle.js_expr.proofs.trees.Trees.plain.Goals as goal

pub node-requires : goal.node-requires
node-requires c = record {
  plain = c.requires.plain;
  fits = node_fits c.args.production c.args.from c.args.count c.args.self.now c.requires.fits;
}

pub add-requires : goal.add-requires
add-requires c =
    node_within c.args.production c.in_ok-node.node c.node.new.self c.args.self.now c.requires.plain c.in_ok-node.ensures
    c.requires.fits.some c.requires.fits.holds

pub returns : goal.returns
returns c =
    weaker_fact c.push.result _ _
    (λ h. plain_built c.args.production c.args.from c.args.count c.in_ok-first.first c.in_ok-last.last c.args.glance
    c.args.self.now (record c.args.self.now { script = c.add.new.self; pieces = c.push.new.self }) c.in_ok-node.node
    c.in_ok-id.id c.node.new.self c.requires.plain c.in_ok-node.ensures c.in_ok-first.ensures c.in_ok-last.ensures
    c.in_ok-id.ensures.ok c.in_ok-id.ensures.number h c.requires.fits) c.push.ensures
