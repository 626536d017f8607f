use Rattle.js_stmt.specs.Tries.{next_scope}
use Rattle.js_calls.proofs.Joined.{entered_body}
use Rattle.js_calls.proofs.page_calls.into_body.Goals as goal

pub returns-clause-is : goal.returns-clause-is
returns-clause-is c = λ a held.
    entered_body c.args.code.text c.args.this c.args.made a c.in_ok-scope.scope
    (next_scope c.args.heap.now) c.restart.new.operands c.args.parts.statements.now
    c.in_ok-scope.ensures.number c.in_ok-restart.ensures held

pub returns-clause-parts : goal.returns-clause-parts
returns-clause-parts c = (c.args.parts.statements.now, c.in_ok-restart.ensures)
