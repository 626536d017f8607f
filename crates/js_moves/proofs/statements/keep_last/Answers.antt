use Rattle.std.proofs.Common.{None, ap, sym, ◌∙◌}
use Rattle.std.specs.Vec.{vec_len}
use Rattle.js_frames.specs.declared.frame.Frame.{Frame}
use Rattle.js_moves.specs.inner.StmtPlaces.{keeping}
use Rattle.js_moves.proofs.StatementsMoved.{last-moves}
use Rattle.js_moves.proofs.statements.keep_last.Goals as goal

pub returns-in-Some : goal.returns-in-Some
returns-in-Some g c = λ x m f is kept none.
    last-moves x m c.args.frames.now.items (vec_len c.args.frames.now) c.in-Some.frame.now f
    (record c.in-Some.frame.now { work = c.set_kept.new.work; contexts = None })
    c.args.frames.now.ok.0 is c.in-Some.ensures.value
    (λ same. record {
      site = ap (λ (z : Frame g.row.D.Denot). z.site) same;
      work = c.set_kept.ensures
          ∙ (ap (λ (z : Frame g.row.D.Denot). keeping c.args.phase c.args.kept z.work) same ∙ kept);
      operands = ap (λ (z : Frame g.row.D.Denot). z.operands) same;
      contexts = sym none;
    })
