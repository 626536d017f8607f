use Rattle.std.proofs.Common.{refl}
use Rattle.js_tree.specs.declared.production.Production.TheVariants as production
use Rattle.js_grammar.specs.declared.symbol.Build.TheVariants as build
use Rattle.js_expr.proofs.Making.{body_turns, counted, node_fits, turned}
use Rattle.js_expr.proofs.Results.{weaker_fact}
use Rattle.js_expr.proofs.trees.Trees.body.Goals as goal

pub body-requires : goal.body-requires
body-requires c = node_fits production.Body c.args.from c.args.count c.args.self.now c.requires

pub returns : goal.returns
returns c =
    weaker_fact c.body.result _ _
    (λ h. turned (build.Node production.Body c.args.from c.args.count) c.args.glance c.args.self.now
    (record c.args.self.now { pieces = c.body.new.self }) refl
    (body_turns c.args.from c.args.glance.before c.args.count c.braces_of-braces.result c.in_ok-first.first
    c.in_ok-last.last c.args.glance c.args.self.now.pieces c.body.new.self c.in_ok-first.ensures c.in_ok-last.ensures
    (counted production.Body c.args.from c.args.count c.args.self.now c.requires) h)) c.body.ensures
