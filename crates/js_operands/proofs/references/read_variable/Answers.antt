use Rattle.std.proofs.Common.{List, ◌++◌}
use Rattle.js_value.specs.declared.value.Value.{Value}
use Rattle.js_operands.proofs.Operands.{answer_there, held_there}
use Rattle.js_operands.specs.ExprMoves.{values_coming}
use Rattle.js_operands.proofs.references.read_variable.Goals as goal

pub read_name-requires-clause-there : goal.read_name-requires-clause-there
read_name-requires-clause-there g c =
    let vs : List Value = c.args.operands.now.done ++ values_coming c.args.operands.now.todo in
    let hs : List Value = g.H.Host.names.host c.args.host.now in
    held_there c.args.heap.now vs hs c.requires.there

pub returns-clause-there : goal.returns-clause-there
returns-clause-there g c =
    let vs : List Value = c.args.operands.now.done ++ values_coming c.args.operands.now.todo in
    let hs : List Value = g.H.Host.names.host c.args.host.now in
    answer_there c.read_name.result c.args.heap.now c.read_name.new.heap vs hs hs c.requires.there c.read_name.ensures.more c.read_name.ensures.there
