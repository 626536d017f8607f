use Rattle.std.proofs.Common.{inl, inr, ◌<◌, ◌∙◌, length, refl, sym, rules}
use Rattle.std.proofs.lemmas.Result.{err_from_is_err_and}
use Rattle.capture_engine.proofs.Records.{at_write_fault, commit_stops, fits_in, has_some, of_view, went_on}
use Rattle.capture_engine.proofs.recorder.Recorder.flush.Goals as goal

pub returns-in-Err-clause-stops : goal.returns-in-Err-clause-stops
returns-in-Err-clause-stops g c = λ start frames current before.
    let some : 0 < length c.deref.result.now = search rules in
    let so_far = of_view c.self.view_is before in
    let said = c.in-Err.ensures in (
      has_some so_far c.deref.result.now c.deref.ensures.value some,
      commit_stops so_far c.deref.result.now c.deref.ensures.value some (g.D.Disk.held c.commit.new.disk) (g.D.Disk.moment c.commit.new.disk) (g.D.Disk.faults c.commit.new.disk) c.in-Err.fault c.of_store.result c.of_store.ensures
          said.full said.fits (λ e. (said.fault e).0) said.fault_moment said.not_empty (elim said.nothing [ inl e ↦ inl e | inr n ↦ inr (n.0, n.1) ]),
    )

pub returns-in_err-write-clause-stops : goal.returns-in_err-write-clause-stops
returns-in_err-write-clause-stops g c =
    let p = err_from_is_err_and c.from_residual.result c.from_residual.ensures.1 in
    rw (p.1, p.2) (λ start frames current before.
    let some : 0 < length c.deref.result.now = search rules in
    let so_far = of_view c.self.view_is before in
    let said = c.in-Ok.ensures in
    let fit = fits_in so_far c.deref.result.now c.deref.ensures.value some _ said.fits (λ e. cc) in (
      has_some so_far c.deref.result.now c.deref.ensures.value some,
      at_write_fault so_far c.deref.result.now c.deref.ensures.value some _ _ _ _ _ said.file said.untold said.moment said.later said.ack.0 said.ack.1 fit _ _ (c.in_err-write.ensures.cause.rose refl) (rw c.ack_line.ensures at c.in_err-write.ensures.less),
    ))

pub returns-clause-commits : goal.returns-clause-commits
returns-clause-commits g c = λ start frames current before.
    let some : 0 < length c.deref.result.now = search rules in
    let so_far = of_view c.self.view_is before in
    let said = c.in-Ok.ensures in
    let fit = fits_in so_far c.deref.result.now c.deref.ensures.value some _ said.fits (λ e. cc) in
    went_on so_far c.deref.result.now c.deref.ensures.value some _ _ _ _ _ said.file said.untold said.moment said.later said.ack.0 said.ack.1 fit _ _ _ _ c.clear.ensures.items said.counts.0
    said.counts.1 (said.counts.2 ∙ sym said.ack.0) (said.counts.3 ∙ sym said.ack.1) said.counts.4 c.in_ok-write.ensures.cause.later (rw c.ack_line.ensures at c.in_ok-write.ensures.ok)
