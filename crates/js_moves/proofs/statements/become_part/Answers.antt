use Rattle.std.proofs.Common.{ap, ◌∙◌}
use Rattle.js_frames.specs.Reading.{last}
use Rattle.js_moves.proofs.StatementsMoved.{becomes}
use Rattle.js_moves.proofs.statements.become_part.Goals as goal

pub returns : goal.returns
returns g c = λ dispatched w.
    becomes g.row.D.Denot dispatched c.args.texts.now w c.args.stack.now c.leave.new.self
    c.put_part.new.stack c.leave.ensures.context c.leave.ensures.base c.leave.ensures.frames
    c.args.node c.last_text-text.result
    (λ f is. c.last_text-text.ensures f (ap last c.deref.ensures.value ∙ is)) c.put_part.result
    (c.put_part.ensures dispatched w)
