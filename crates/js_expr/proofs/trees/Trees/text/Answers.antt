use Rattle.std.proofs.Common.{[], refl, subst}
use Rattle.js_grammar.specs.declared.symbol.Build.TheVariants as build
use Rattle.js_grammar.specs.inner.Sorts.{onto}
use Rattle.js_pieces.specs.Pieces.{Fits}
use Rattle.js_expr.proofs.Making.{counted, node_fits, turned, whole_turns}
use Rattle.js_expr.proofs.Results.{weaker_fact}
use Rattle.js_expr.proofs.trees.Trees.text.Goals as goal

pub whole-requires : goal.whole-requires
whole-requires c =
    subst (λ z. Fits (onto z []) c.args.self.now.pieces) c.requires.text.0
    (node_fits c.args.production c.args.from c.args.count c.args.self.now c.requires.fits)

pub returns : goal.returns
returns c =
    weaker_fact c.whole.result _ _
    (λ h. turned (build.Node c.args.production c.args.from c.args.count) c.args.glance c.args.self.now
    (record c.args.self.now { pieces = c.whole.new.self }) refl
    (whole_turns c.args.production c.args.from c.args.count c.in_ok-first.first c.in_ok-last.last c.args.glance
    c.args.self.now.pieces c.whole.new.self c.requires.text.0 c.requires.text.1 c.in_ok-first.ensures
    c.in_ok-last.ensures (counted c.args.production c.args.from c.args.count c.args.self.now c.requires.fits) h))
    c.whole.ensures
