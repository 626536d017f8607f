use Rattle.std.proofs.Common.{refl}
use Rattle.js_grammar.specs.declared.symbol.Build.TheVariants as build
use Rattle.js_expr.proofs.Making.{root_fits, root_turns, turned}
use Rattle.js_expr.proofs.Results.{weaker_fact}
use Rattle.js_expr.proofs.trees.Trees.root.Goals as goal

pub whole-requires : goal.whole-requires
whole-requires c = root_fits c.args.production c.args.self.now c.requires

pub returns : goal.returns
returns c =
    weaker_fact c.whole.result _ _
    (λ h. turned (build.Root c.args.production) c.args.glance c.args.self.now
    (record c.args.self.now { pieces = c.whole.new.self }) refl
    (root_turns c.args.production c.in_ok-last.last c.args.glance c.args.self.now.pieces c.whole.new.self
    c.in_ok-last.ensures h)) c.whole.ensures
