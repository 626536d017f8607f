use Rattle.std.proofs.Common.{List, ◌++◌}
use Rattle.js_value.specs.declared.value.Value.{Value}
use Rattle.js_operands.proofs.Operands.{answer_there, held_there}
use Rattle.js_operands.specs.ExprMoves.{values_coming}
use Rattle.js_operands.proofs.references.delete_base.Goals as goal

pub delete-requires : goal.delete-requires
delete-requires g c =
    let vs : List Value = c.args.operands.now.done ++ values_coming c.args.operands.now.todo in
    let hs : List Value = g.H.Host.names.host c.args.host.now in
    (c.operand.ensures.there c.args.heap.now hs c.requires tt, held_there c.args.heap.now vs hs c.requires)

pub returns-clause-there : goal.returns-clause-there
returns-clause-there g c =
    let vs : List Value = c.args.operands.now.done ++ values_coming c.args.operands.now.todo in
    let hs : List Value = g.H.Host.names.host c.args.host.now in
    answer_there c.delete.result c.args.heap.now c.delete.new.heap vs hs hs c.requires c.delete.ensures.more c.delete.ensures.there
