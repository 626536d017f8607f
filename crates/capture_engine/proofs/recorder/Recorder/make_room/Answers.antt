use Rattle.std.proofs.Common.{◌∙◌, sym}
use Rattle.std.proofs.lemmas.Result.{err_from_is_err_and}
use Rattle.capture_engine.proofs.Records.{stays, turns_over}
use Rattle.capture_engine.proofs.recorder.Recorder.make_room.Goals as goal

pub returns-then-not-ends_before-clause-makes : goal.returns-then-not-ends_before-clause-makes
returns-then-not-ends_before-clause-makes g c = λ start frames current before.
    stays c.args.item.now (sym (c.ends_before.ensures current before.payload_is) ∙ c.if-not-ends_before.true) before

pub returns-clause-makes : goal.returns-clause-makes
returns-clause-makes g c = λ start frames current before.
    turns_over frames current c.args.item.now (sym (c.ends_before.ensures current before.payload_is) ∙ c.if-not-ends_before.false) (c.in_ok-flush.ensures.commits start frames current before)

pub returns-in_err-flush-clause-stops : goal.returns-in_err-flush-clause-stops
returns-in_err-flush-clause-stops g c =
    let p = err_from_is_err_and c.from_residual.result c.from_residual.ensures.1 in
    rw (p.1, p.2) (λ start frames current before.
    (sym (c.ends_before.ensures current before.payload_is) ∙ c.if-not-ends_before.false, (c.in_err-flush.ensures.stops start frames current before).1))
