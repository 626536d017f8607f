use Rattle.std.proofs.Common.{List, ◌++◌}
use Rattle.js_value.specs.declared.value.Value.{Value}
use Rattle.js_operands.proofs.Operands.{answer_there, held_there}
use Rattle.js_operands.specs.ExprMoves.{values_coming}
use Rattle.js_operands.proofs.references.write_base.Goals as goal

pub write-requires : goal.write-requires
write-requires g c =
    let vs : List Value = c.args.operands.now.done ++ values_coming c.args.operands.now.todo in
    let hs : List Value = g.H.Host.names.host c.args.host.now in
    (c.operand.ensures.there c.args.heap.now hs c.requires.1 tt, (c.requires.0, held_there c.args.heap.now vs hs c.requires.1))

pub returns-clause-there : goal.returns-clause-there
returns-clause-there g c =
    let vs : List Value = c.args.operands.now.done ++ values_coming c.args.operands.now.todo in
    let hs : List Value = g.H.Host.names.host c.args.host.now in
    answer_there c.write.result c.args.heap.now c.write.new.heap vs hs (g.H.Host.names.host c.write.new.host) c.requires.1 c.write.ensures.more c.write.ensures.there
