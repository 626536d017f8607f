use Rattle.std.proofs.Common.{List, ◌++◌}
use Rattle.js_value.specs.declared.value.Value.{Value}
use Rattle.js_operands.proofs.Operands.{answer_there, held_there}
use Rattle.js_operands.specs.ExprMoves.{values_coming}
use Rattle.js_operands.proofs.references.read_base.Goals as goal

pub read-requires : goal.read-requires
read-requires g c =
    let vs : List Value = c.args.operands.now.done ++ values_coming c.args.operands.now.todo in
    let hs : List Value = g.H.Host.names.host c.args.host.now in
    (c.operand.ensures.there c.args.heap.now hs c.requires tt, held_there c.args.heap.now vs hs c.requires)

pub returns-clause-there : goal.returns-clause-there
returns-clause-there g c =
    let vs : List Value = c.args.operands.now.done ++ values_coming c.args.operands.now.todo in
    let hs : List Value = g.H.Host.names.host c.args.host.now in
    answer_there c.read.result c.args.heap.now c.read.new.heap vs hs hs c.requires c.read.ensures.more c.read.ensures.there
