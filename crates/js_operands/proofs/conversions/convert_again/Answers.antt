use Rattle.std.proofs.Common.{List, ◌++◌, ap, ◌∙◌}
use Rattle.js_value.specs.declared.value.Value.{Value}
use Rattle.js_reference.specs.Hosted.{hosted}
use Rattle.js_operands.proofs.Operands.{held_there}
use Rattle.js_operands.proofs.Waiting.{waits_there}
use Rattle.js_operands.specs.Conversions.{convert}
use Rattle.js_operands.specs.ExprMoves.{values_coming}
use Rattle.js_operands.proofs.conversions.convert_again.Goals as goal

pub convert-requires : goal.convert-requires
convert-requires g c =
    let vs : List Value = c.args.operands.now.done ++ values_coming c.args.operands.now.todo in
    let hs : List Value = g.H.Host.names.host c.args.host.now in
    (c.operand-object.ensures.there c.args.heap.now hs c.requires.there tt, held_there c.args.heap.now vs hs c.requires.there)

pub returns-clause-value : goal.returns-clause-value
returns-clause-value g c =
    let O = hosted g.H.Host.rows in
    let step = convert O c.args.heap.now c.args.host.now c.args.wanted.by in
    c.in_ok-conversion.ensures.value ∙ ap step c.operand-object.ensures.value

pub returns-clause-there : goal.returns-clause-there
returns-clause-there g c =
    let hs : List Value = g.H.Host.names.host c.args.host.now in
    waits_there c.in_ok-conversion.conversion c.args.heap.now c.convert.new.heap
    c.args.wanted.place c.args.operands.now c.turn_back.new.self hs c.turn_back.ensures
    c.requires.there c.in_ok-conversion.ensures.more c.in_ok-conversion.ensures.there
