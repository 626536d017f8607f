use Rattle.std.proofs.Common.{List, ◌++◌}
use Rattle.js_value.specs.declared.value.Value.{Value}
use Rattle.js_operands.proofs.Operands.{answer_there, held_there}
use Rattle.js_operands.specs.ExprMoves.{values_coming}
use Rattle.js_operands.proofs.references.write_variable.Goals as goal

pub write_name-requires-clause-there : goal.write_name-requires-clause-there
write_name-requires-clause-there g c =
    let vs : List Value = c.args.operands.now.done ++ values_coming c.args.operands.now.todo in
    let hs : List Value = g.H.Host.names.host c.args.host.now in
    (c.requires.there.0, held_there c.args.heap.now vs hs c.requires.there.1)

pub returns-clause-there : goal.returns-clause-there
returns-clause-there g c =
    let vs : List Value = c.args.operands.now.done ++ values_coming c.args.operands.now.todo in
    let hs : List Value = g.H.Host.names.host c.args.host.now in
    answer_there c.write_name.result c.args.heap.now c.write_name.new.heap vs hs (g.H.Host.names.host c.write_name.new.host) c.requires.there.1 c.write_name.ensures.more c.write_name.ensures.there
