use Rattle.std.proofs.Common.{List, ◌++◌, ap, ◌∙◌}
use Rattle.js_value.specs.declared.value.Value.{Value}
use Rattle.js_reference.specs.Hosted.{hosted}
use Rattle.js_operands.proofs.Operands.{held_there}
use Rattle.js_operands.proofs.Waiting.{conversion_named}
use Rattle.js_operands.specs.Conversions.{convert}
use Rattle.js_operands.specs.ExprMoves.{conversion_as, row_behind, values_coming}
use Rattle.js_operands.specs.Steps.{operand_at}
use Rattle.js_operands.proofs.conversions.convert_row.Goals as goal

pub convert-requires : goal.convert-requires
convert-requires g c =
    let vs : List Value = c.args.operands.now.done ++ values_coming c.args.operands.now.todo in
    let hs : List Value = g.H.Host.names.host c.args.host.now in
    (c.operand-value.ensures.there c.args.heap.now hs c.requires tt, held_there c.args.heap.now vs hs c.requires)

pub returns-clause-there : goal.returns-clause-there
returns-clause-there g c =
    let vs : List Value = c.args.operands.now.done ++ values_coming c.args.operands.now.todo in
    let hs : List Value = g.H.Host.names.host c.args.host.now in
    conversion_named c.in_ok-conversion.conversion c.args.heap.now c.convert.new.heap vs hs c.requires c.in_ok-conversion.ensures.more c.in_ok-conversion.ensures.there
