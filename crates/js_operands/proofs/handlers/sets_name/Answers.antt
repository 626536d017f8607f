use Rattle.std.proofs.Common.{List, ◌++◌}
use Rattle.js_value.specs.declared.value.Value.{Value}
use Rattle.js_operands.proofs.Operands.{held_there}
use Rattle.js_operands.specs.ExprMoves.{values_coming}
use Rattle.js_operands.proofs.handlers.sets_name.Goals as goal

pub sets_handler_of-requires-clause-value : goal.sets_handler_of-requires-clause-value
sets_handler_of-requires-clause-value g c =
    let named : List Value = c.args.operands.now.done ++ values_coming c.args.operands.now.todo in
    let hs : List Value = g.H.Host.names.host c.args.host.now in
    (c.operand.ensures.there c.args.heap.now hs c.requires.there tt, held_there c.args.heap.now named hs c.requires.there)
