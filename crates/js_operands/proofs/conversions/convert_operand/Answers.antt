use Rattle.js_reference.specs.Hosted.{hosted}
use Rattle.js_operands.proofs.Waiting.{waits, waits_again}
use Rattle.js_operands.specs.Conversions.{convert}
use Rattle.js_operands.specs.ExprMoves.{conversion_as, row_behind}
use Rattle.js_operands.specs.Steps.{operand_at}
use Rattle.js_operands.proofs.conversions.convert_operand.Goals as goal

pub returns-clause-value : goal.returns-clause-value
returns-clause-value g c = λ a r.
    let w = c.args.heap.now in
    let h = c.args.host.now in
    let n = c.args.wanted.place in
    let e = c.args.operands.now in
    let step = convert (hosted g.H.Host.rows) w h c.args.wanted.by (operand_at e.done n) in
    let is = c.in_ok-conversion.ensures in
    waits w c.convert_again.new.heap h (row_behind r c.args.phase) n e
    c.convert_again.new.operands step (conversion_as c.in_ok-conversion.conversion)
    c.requires.place c.requires.coming is.waits is.value is.after

pub returns-clause-shape : goal.returns-clause-shape
returns-clause-shape g c = λ n d next same. (
  next,
  waits_again c.args.wanted.place c.args.operands.now c.convert_again.new.operands d
      c.requires.place c.in_ok-conversion.ensures.waits same,
)
