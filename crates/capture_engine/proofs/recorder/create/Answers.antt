use Rattle.std.proofs.Common.{◌∙◌, Err, refl, arith}
use Rattle.std.proofs.lemmas.Result.{err_from_is_err_and}
use Rattle.capture_engine.proofs.Records.{made_empty, rose_later, unmade}
use Rattle.capture_engine.proofs.recorder.create.Goals as goal

pub returns-in-Err-clause-unmade : goal.returns-in-Err-clause-unmade
returns-in-Err-clause-unmade g c = λ taken faults out out' earlier.
    let said = c.in-Err.ensures in
    unmade _ _ c.in-Err.fault c.of_store.result c.of_store.ensures refl (λ e. said.not_empty (λ i. Err (e i))) (λ e. rose_later faults _ _ earlier (said.fault (λ i. Err (e i)))) (λ e. said.fault_moment (λ i. Err (e i)))
    (λ e. said.only.0 (λ i. Err (e i))) (λ e. said.only.2 (λ i. Err (e i)))

pub returns-in_err-recorder-clause-unmade : goal.returns-in_err-recorder-clause-unmade
returns-in_err-recorder-clause-unmade g c =
    let p = err_from_is_err_and c.from_residual.result c.from_residual.ensures.1 in
    rw (p.1, p.2) (λ taken faults out out' earlier.
    let store = c.in-Ok.ensures in made_empty _ _ store.file refl store.moment)

pub returns-clause-made : goal.returns-clause-made
returns-clause-made g c = λ taken faults out out' earlier later.
    let store = c.in-Ok.ensures in
    let kept = c.in_ok-recorder.ensures.same in
    let none = c.in_ok-recorder.ensures.none in
    record {
      holds = made_empty _ _ store.file refl store.moment;
      place = kept.0 ∙ store.made.0;
      frames_are = kept.1 ∙ store.made.1;
      inputs_are = kept.2 ∙ store.made.2;
      moments_are = kept.3 ∙ store.made.3;
      running = kept.4 ∙ store.made.4;
      payload_is = none.0;
      open_are = none.1;
      disk_later = omega (arith, earlier, store.later);
      out_later = later;
    }
