use Rattle.std.proofs.Common.{refl}
use Rattle.js_tree.specs.declared.production.Production.TheVariants as production
use Rattle.js_grammar.specs.inner.Sorts as sort
use Rattle.js_expr.proofs.Making.{function_built, has_statements, node_fits}
use Rattle.js_expr.proofs.Results.{weaker_fact}
use Rattle.js_expr.proofs.trees.Trees.declaration.Goals as goal

pub declaration-requires : goal.declaration-requires
declaration-requires c = record {
  fits = node_fits production.Declaration c.args.from c.args.count c.args.self.now c.requires;
  there = has_statements c.args.self.now.script c.requires.holds.bodies c.args.self.now.pieces c.requires.some
      c.requires.holds.holds;
}

pub returns : goal.returns
returns c =
    weaker_fact c.push.result _ _
    (λ h. function_built production.Declaration c.args.from c.args.count c.in_ok-first.first c.in_ok-last.last c.args.glance
    c.args.self.now (record c.args.self.now { script = c.declaration.new.script; pieces = c.push.new.self }) c.in_ok-id.id
    c.declaration.new.self (sort.Text, refl, refl) c.in_ok-first.ensures c.in_ok-last.ensures c.in_ok-id.ensures h c.requires)
    c.push.ensures
