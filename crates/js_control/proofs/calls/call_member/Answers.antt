use Rattle.std.proofs.Common.{◌∷◌, [], List, map}
use Rattle.js_value.specs.declared.value.Value.{Value}
use Rattle.js_reference.specs.Answers.{answer}
use Rattle.js_reference.specs.Hosted.{hosted}
use Rattle.js_reference.specs.Names.{read_name}
use Rattle.js_reference.specs.Properties.{read}
use Rattle.js_tree.specs.TreeAt.{tree_at}
use Rattle.js_operands.proofs.Guards.{next_made}
use Rattle.js_operands.specs.Steps.{call_node}
use Rattle.js_operands.specs.ExprMoves.{later_row, made_of}
use Rattle.js_operands.specs.Rows.{ExprRow}
use Rattle.js_operands.specs.Steps.{goes_on, operand_at, with_value}
use Rattle.js_operands.specs.declared.row.Phase.TheVariants as phase
use Rattle.js_control.proofs.calls.call_member.Goals as goal

pub returns-clause-value : goal.returns-clause-value
returns-clause-value g c = λ a r.
    let row : ExprRow = r in
    let vs : List Value = c.args.operands.now.done in
    let w = c.read_base.new.heap in
    let h = c.args.host.now in
    let op = read (hosted g.H.Host.rows) c.args.heap.now h (operand_at vs 0) c.args.key.now in
    next_made c.call_on_base.result (goes_on (call_node (map (tree_at a) c.args.arguments.now) (operand_at vs 0))) op (answer c.in_ok-answered.answered w h)
    (λ m. made_of a row c.call_on_base.new.operands m w h) c.in_ok-answered.ensures.value (c.call_on_base.ensures.value a row w h)

pub returns-clause-there : goal.returns-clause-there
returns-clause-there g c = c.call_on_base.ensures.there c.read_base.new.heap (g.H.Host.names.host c.args.host.now) c.in_ok-answered.ensures.there
