use Rattle.std.proofs.Common.{refl, arith}
use Rattle.mugshot_cli.proofs.CaptureOutcome.{empty_told}
use Rattle.mugshot_cli.proofs.capturing.capture.Goals as goal

pub returns-in-Ok-captured : goal.returns-in-Ok-captured
returns-in-Ok-captured g c = λ err err'.
    c.in-Ok-captured.ensures.did _ err err' (record { held = c.in-Ok-eq0.ensures.held; moment = c.in-Ok-eq0.ensures.moment; taken = refl; disk_later = c.in-Ok-eq0.ensures.cause.later; out_later = omega arith })
    (empty_told _ _ c.in-Ok-eq0.field-0 refl c.in-Ok-eq0.ensures.told (omega arith))

pub returns-in-Err-captured : goal.returns-in-Err-captured
returns-in-Err-captured g c = λ err err'.
    c.in-Err-captured.ensures.did _ err err' (record { held = c.in-Ok-eq0.ensures.held; moment = c.in-Ok-eq0.ensures.moment; taken = refl; disk_later = c.in-Ok-eq0.ensures.cause.later; out_later = omega arith })
    (empty_told _ _ c.in-Ok-eq0.field-0 refl c.in-Ok-eq0.ensures.told (omega arith))
