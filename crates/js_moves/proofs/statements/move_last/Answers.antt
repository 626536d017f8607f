use Rattle.std.proofs.Common.{ap, ◌∙◌}
use Rattle.std.specs.Vec.{vec_len}
use Rattle.js_stmt.specs.declared.stmt_move.StmtMove.TheVariants as move
use Rattle.js_frames.specs.declared.frame.Frame.{Frame}
use Rattle.js_moves.specs.inner.StmtPlaces.{in_phase}
use Rattle.js_moves.proofs.StatementsMoved.{last-moves}
use Rattle.js_moves.proofs.statements.move_last.Goals as goal

pub returns-in-Some : goal.returns-in-Some
returns-in-Some g c = λ x f is e.
    last-moves x (move.GoesOn c.args.phase) c.args.frames.now.items (vec_len c.args.frames.now)
    c.in-Some.frame.now f
    (record c.in-Some.frame.now { work = c.set_phase.new.work; contexts = c.args.contexts })
    c.args.frames.now.ok.0 is c.in-Some.ensures.value
    (λ same. record {
      site = ap (λ (z : Frame g.row.D.Denot). z.site) same;
      work = c.set_phase.ensures
          ∙ ap (λ (z : Frame g.row.D.Denot). in_phase c.args.phase z.work) same;
      operands = ap (λ (z : Frame g.row.D.Denot). z.operands) same;
      contexts = e;
    })
