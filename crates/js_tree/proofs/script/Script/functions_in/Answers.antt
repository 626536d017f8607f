use Rattle.std.proofs.Common.{length}
use Rattle.js_tree.proofs.Functions.{within_at, none_found, one_found, all_found}
use Rattle.js_tree.proofs.script.Script.functions_in.Goals as goal

pub loop-id-init : goal.loop-id-init
loop-id-init c = none_found c.args.self.now c.args.statements.now c.new-found.result.items c.new-found.ensures.items

pub span-from-requires : goal.span-from-requires
span-from-requires c = within_at (length c.args.self.now.kept) (length c.args.self.now.pending) c.args.statements.now c.requires c.loop-id.id-index _ c.loop-id-test.true

pub node-requires : goal.node-requires
node-requires c = within_at (length c.args.self.now.kept) (length c.args.self.now.pending) c.args.statements.now c.requires c.loop-id.id-index _ c.loop-id-test.true

pub loop-id-preserved : goal.loop-id-preserved
loop-id-preserved c =
    one_found c.args.self.now c.args.statements.now c.loop-id.id-index c.loop-id.found.items c.loop-id.invariant _ c.loop-id-test.true c.node.result.now c.span-from.result.0 c.span-from.result.1
    c.node.ensures.is c.span-from.ensures c.push_declared.new.functions.items c.in_ok-push_declared.ensures

pub returns : goal.returns
returns c = all_found c.args.self.now c.args.statements.now c.loop-id.id-index c.loop-id.found.items c.loop-id-test.false c.loop-id.invariant
