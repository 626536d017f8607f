use Rattle.std.proofs.Common.{ap, refl, sym, ◌∙◌}
use Rattle.js_grammar.specs.declared.symbol.Build.TheVariants as build
use Rattle.js_grammar.specs.inner.Sorts.{made}
use Rattle.js_pieces.specs.Pieces.{sorts}
use Rattle.js_expr.proofs.Making.{became, builds_as, put_empty, turned, two_or_none}
use Rattle.js_expr.proofs.Results.{weaker_fact}
use Rattle.js_expr.proofs.trees.Trees.group.Goals as goal

pub pair-requires : goal.pair-requires
pair-requires c = (
  c.requires.sorts_behind,
  ap (λ z. made (build.Group z) (sorts c.args.self.now.pieces))
      (sym (two_or_none c.args.count (sorts c.args.self.now.pieces) c.requires.sorts_behind c.requires.fits c.if-count-eq0.false))
      ∙ c.requires.fits,
)

pub returns-then-count-eq0 : goal.returns-then-count-eq0
returns-then-count-eq0 c =
    weaker_fact c.push.result _ _
    (λ h glance. builds_as (build.Group c.args.count) (build.Group 0) glance c.args.self.now
    (record c.args.self.now { pieces = c.push.new.self }) (ap (λ z. build.Group z) c.if-count-eq0.true)
    (turned (build.Group 0) glance c.args.self.now (record c.args.self.now { pieces = c.push.new.self }) refl
    (put_empty glance c.args.self.now.pieces c.push.new.self h))) c.push.ensures

pub returns-else-count-eq0 : goal.returns-else-count-eq0
returns-else-count-eq0 c =
    weaker_fact c.pair.result _ _
    (λ h glance. builds_as (build.Group c.args.count) (build.Group 2) glance c.args.self.now
    (record c.args.self.now { pieces = c.pair.new.self })
    (ap (λ z. build.Group z) (two_or_none c.args.count (sorts c.args.self.now.pieces) c.requires.sorts_behind c.requires.fits c.if-count-eq0.false))
    (turned (build.Group 2) glance c.args.self.now (record c.args.self.now { pieces = c.pair.new.self }) refl
    (became (build.Group 2) glance c.args.self.now.pieces c.pair.new.self (λ q e. cc) h))) c.pair.ensures
