use Rattle.std.proofs.Common.{subst, sym}
use Rattle.js_host.specs.There.{AreThere}
use Rattle.js_operands.specs.ExprMoves.{operand_names}
use Rattle.js_control.proofs.Storing.{counted_so}
use Rattle.js_control.proofs.updates.store_member.Goals as goal

pub returns-in_ok-answered-in-Ready-clause-there : goal.returns-in_ok-answered-in-Ready-clause-there
returns-in_ok-answered-in-Ready-clause-there g c =
    let w' = c.write_base.new.heap in
    let vs = operand_names c.target_numbers.new.operands (g.H.Host.names.host c.write_base.new.host) in
    subst (AreThere w') (sym (c.given.ensures.names vs)) (c.update_answer.ensures.there w' vs c.in_ok-answered-in-Ready.ensures.there)

pub returns-in-Moves-clause-shape : goal.returns-in-Moves-clause-shape
returns-in-Moves-clause-shape g c = λ n.
    counted_so n c.args.operands.now c.target_numbers.new.operands c.in-Moves.moved c.in_ok-moved.field-0 c.in-Moves.is (c.in_ok-moved.ensures.shape n)

pub returns-in_ok-answered-in-Ready-clause-shape : goal.returns-in_ok-answered-in-Ready-clause-shape
returns-in_ok-answered-in-Ready-clause-shape g c = λ n.
    c.given.ensures.shape n c.args.operands.now c.target_numbers.new.operands
