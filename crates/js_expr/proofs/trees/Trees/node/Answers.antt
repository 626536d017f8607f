use Rattle.std.proofs.Common.{ap, refl, subst, sym}
use Rattle.js_tree.specs.declared.production.Production.TheVariants as production
use Rattle.js_grammar.specs.declared.symbol.Build.TheVariants as build
use Rattle.js_expr.specs.Trees.{IsTextOf}
use Rattle.js_expr.proofs.Making.{builds_as, may_as}
use Rattle.js_expr.proofs.Results.{weaker_fact}
use Rattle.js_expr.proofs.trees.Trees.node.Goals as goal

pub body-requires : goal.body-requires
body-requires c =
    may_as (build.Node c.args.production c.args.from c.args.count)
    (build.Node production.Body c.args.from c.args.count) c.args.self.now
    (ap (λ z. build.Node z c.args.from c.args.count) c.in-Body.is) c.requires

pub returns-in-Body : goal.returns-in-Body
returns-in-Body c =
    weaker_fact c.body.result _ _
    (λ h. builds_as (build.Node c.args.production c.args.from c.args.count)
    (build.Node production.Body c.args.from c.args.count) c.args.glance c.args.self.now c.body.new.self
    (ap (λ z. build.Node z c.args.from c.args.count) c.in-Body.is) h) c.body.ensures

pub function-requires : goal.function-requires
function-requires c =
    may_as (build.Node c.args.production c.args.from c.args.count)
    (build.Node production.Function c.args.from c.args.count) c.args.self.now
    (ap (λ z. build.Node z c.args.from c.args.count) c.in-Function.is) c.requires

pub returns-in-Function : goal.returns-in-Function
returns-in-Function c =
    weaker_fact c.function.result _ _
    (λ h. builds_as (build.Node c.args.production c.args.from c.args.count)
    (build.Node production.Function c.args.from c.args.count) c.args.glance c.args.self.now c.function.new.self
    (ap (λ z. build.Node z c.args.from c.args.count) c.in-Function.is) h) c.function.ensures

pub declaration-requires : goal.declaration-requires
declaration-requires c =
    may_as (build.Node c.args.production c.args.from c.args.count)
    (build.Node production.Declaration c.args.from c.args.count) c.args.self.now
    (ap (λ z. build.Node z c.args.from c.args.count) c.in-Declaration.is) c.requires

pub returns-in-Declaration : goal.returns-in-Declaration
returns-in-Declaration c =
    weaker_fact c.declaration.result _ _
    (λ h. builds_as (build.Node c.args.production c.args.from c.args.count)
    (build.Node production.Declaration c.args.from c.args.count) c.args.glance c.args.self.now c.declaration.new.self
    (ap (λ z. build.Node z c.args.from c.args.count) c.in-Declaration.is) h) c.declaration.ensures

pub text-requires : goal.text-requires
text-requires c = record {
  text = subst IsTextOf (sym c.in-Program.is) (refl, refl);
  fits = c.requires;
}

pub text-requires-in-Handler : goal.text-requires-in-Handler
text-requires-in-Handler c = record {
  text = subst IsTextOf (sym c.in-Handler.is) (refl, refl);
  fits = c.requires;
}
