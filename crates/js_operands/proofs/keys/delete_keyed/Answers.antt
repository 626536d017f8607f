use Rattle.js_operands.proofs.Shaped.{keyed_so}
use Rattle.js_operands.proofs.keys.delete_keyed.Goals as goal

pub returns-in-Moves-clause-shape : goal.returns-in-Moves-clause-shape
returns-in-Moves-clause-shape g c = λ n.
    keyed_so n c.args.operands.now c.key_text.new.operands c.in-Moves.moved c.in_ok-moved.field-0 c.in-Moves.is (c.in_ok-moved.ensures.shape n)
