use Rattle.std.proofs.Common.{◌∙◌}
use Rattle.session_store.proofs.Writes.{gate_written, on_err}
use Rattle.session_store.proofs.keeper.write_frame.Goals as goal

pub returns-clause-left : goal.returns-clause-left
returns-clause-left g c =
    let first = c.in_ok-write_at.ensures.written in
    let second = c.in_ok-write_at-2.ensures.written in
    on_err c.sync-2.result (gate_written _ (g.D.Disk.held c.write_at.new.self) _ c.args.place c.args.frame.now c.requires.after_gate c.requires.inside first
    (c.sync-2.ensures.held ∙ (rw c.sync.ensures.held at second)))
