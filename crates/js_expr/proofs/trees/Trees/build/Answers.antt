use Rattle.std.proofs.Common.{refl}
use Rattle.js_grammar.specs.declared.symbol.Build.TheVariants as build
use Rattle.js_expr.proofs.Making.{became, builds_as, may_as, put_missing, put_text, turned}
use Rattle.js_expr.proofs.Results.{weaker_fact}
use Rattle.js_expr.proofs.trees.Trees.build.Goals as goal

pub node-requires : goal.node-requires
node-requires c =
    may_as c.args.build (build.Node c.in-Node.production c.in-Node.from c.in-Node.count) c.args.self.now c.in-Node.is c.requires

pub returns-in-Node : goal.returns-in-Node
returns-in-Node c =
    weaker_fact c.node.result _ _
    (λ h. builds_as c.args.build (build.Node c.in-Node.production c.in-Node.from c.in-Node.count) c.args.glance
    c.args.self.now c.node.new.self c.in-Node.is h) c.node.ensures

pub root-requires : goal.root-requires
root-requires c = may_as c.args.build (build.Root c.in-Root.production) c.args.self.now c.in-Root.is c.requires

pub returns-in-Root : goal.returns-in-Root
returns-in-Root c =
    weaker_fact c.root.result _ _
    (λ h. builds_as c.args.build (build.Root c.in-Root.production) c.args.glance c.args.self.now c.root.new.self
    c.in-Root.is h) c.root.ensures

pub group-requires : goal.group-requires
group-requires c = may_as c.args.build (build.Group c.in-Group.count) c.args.self.now c.in-Group.is c.requires

pub returns-in-Group : goal.returns-in-Group
returns-in-Group c =
    weaker_fact c.group.result _ _
    (λ h. builds_as c.args.build (build.Group c.in-Group.count) c.args.glance c.args.self.now c.group.new.self
    c.in-Group.is (h c.args.glance)) c.group.ensures

pub add-requires : goal.add-requires
add-requires c =
    let may = may_as c.args.build build.Add c.args.self.now c.in-Add.is c.requires in (may.sorts_behind, may.fits)

pub returns-in-Add : goal.returns-in-Add
returns-in-Add c =
    weaker_fact c.add.result _ _
    (λ h. builds_as c.args.build build.Add c.args.glance c.args.self.now
    (record c.args.self.now { pieces = c.add.new.self }) c.in-Add.is
    (turned build.Add c.args.glance c.args.self.now (record c.args.self.now { pieces = c.add.new.self }) refl
    (became build.Add c.args.glance c.args.self.now.pieces c.add.new.self (λ q e. cc) h))) c.add.ensures

pub returns-in-Missing : goal.returns-in-Missing
returns-in-Missing c =
    weaker_fact c.push.result _ _
    (λ h. builds_as c.args.build build.Missing c.args.glance c.args.self.now
    (record c.args.self.now { pieces = c.push.new.self }) c.in-Missing.is
    (turned build.Missing c.args.glance c.args.self.now (record c.args.self.now { pieces = c.push.new.self }) refl
    (put_missing c.args.glance c.args.self.now.pieces c.push.new.self h))) c.push.ensures

pub returns-in-Text : goal.returns-in-Text
returns-in-Text c =
    weaker_fact c.push-in-Text.result _ _
    (λ h. builds_as c.args.build (build.Text c.in-Text.text) c.args.glance c.args.self.now
    (record c.args.self.now { pieces = c.push-in-Text.new.self }) c.in-Text.is
    (turned (build.Text c.in-Text.text) c.args.glance c.args.self.now
    (record c.args.self.now { pieces = c.push-in-Text.new.self }) refl
    (put_text c.args.glance c.in-Text.text c.args.self.now.pieces c.push-in-Text.new.self h))) c.push-in-Text.ensures
