use Rattle.std.proofs.Common.{List, ◌++◌, length, subst, sym}
use Rattle.std.specs.Option.{option_map}
use Rattle.js_value.specs.declared.value.Value.{Value}
use Rattle.js_heap.specs.Chains.{IsBelow}
use Rattle.js_heap.specs.Objects.{id_number}
use Rattle.js_operands.proofs.Objects.{object_below}
use Rattle.js_operands.proofs.Operands.{held_there}
use Rattle.js_operands.specs.ExprMoves.{values_coming}
use Rattle.js_operands.proofs.handlers.sets_property.Goals as goal

pub sets_handler_of-requires-clause-value : goal.sets_handler_of-requires-clause-value
sets_handler_of-requires-clause-value g c =
    let named : List Value = c.args.operands.now.done ++ values_coming c.args.operands.now.todo in
    let hs : List Value = g.H.Host.names.host c.args.host.now in
    (c.operand-value.ensures.there c.args.heap.now hs c.requires tt, held_there c.args.heap.now named hs c.requires)

pub sets_handler_of-requires-clause-object : goal.sets_handler_of-requires-clause-object
sets_handler_of-requires-clause-object g c =
    let w = c.args.heap.now in
    let hs : List Value = g.H.Host.names.host c.args.host.now in
    subst (λ o. IsBelow (length w.objects) (option_map id_number o)) (sym c.as_object-object.ensures) (object_below w _ (c.operand.ensures.there w hs c.requires tt))
