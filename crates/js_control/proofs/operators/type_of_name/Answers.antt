use Rattle.std.proofs.Common.{List, ◌++◌}
use Rattle.js_value.specs.declared.value.Value.{Value}
use Rattle.js_operands.specs.ExprMoves.{values_coming}
use Rattle.js_operands.proofs.Operands.{held_there}
use Rattle.js_control.proofs.operators.type_of_name.Goals as goal

pub name_value-requires-clause-there : goal.name_value-requires-clause-there
name_value-requires-clause-there g c =
    let vs : List Value = c.args.operands.now.done ++ values_coming c.args.operands.now.todo in
    let hs : List Value = g.H.Host.names.host c.args.host.now in
    held_there c.args.heap.now vs hs c.requires.there
