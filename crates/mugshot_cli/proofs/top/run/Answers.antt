use Rattle.std.proofs.Common.{Err, inl, inr, refl}
use Rattle.mugshot_cli.proofs.Dispatch.{capture_asked, did_starve, list_asked, replay_asked, steps_range}
use Rattle.mugshot_cli.proofs.top.run.Goals as goal

pub returns-in-Ok-List : goal.returns-in-Ok-List
returns-in-Ok-List g c = λ err err'.
    let asks = rw c.in-Ok-List.field-0-is at c.in-Ok-List.ensures.action in
    record { spelled = λ other spells. list_asked _ other _ _ _ _ asks spells c.of_list.ensures c.list.ensures; unspelled = λ none. absurd (none asks.command asks.spells) }

pub returns-in-Ok-Replay : goal.returns-in-Ok-Replay
returns-in-Ok-Replay g c = λ err err'.
    let asks = rw c.in-Ok-Replay.field-0-is at c.in-Ok-Replay.ensures.action in
    record { spelled = λ other spells. replay_asked _ other _ _ _ _ asks spells c.of_replay.ensures c.replay.ensures; unspelled = λ none. absurd (none asks.command asks.spells) }

pub capture-requires : goal.capture-requires
capture-requires g c =
    let range = steps_range _ _ (rw c.in-Ok-Capture.field-0-is at c.in-Ok-Capture.ensures.action) in
    record { least = range.0; most = range.1 }

pub returns-in-Ok-Capture : goal.returns-in-Ok-Capture
returns-in-Ok-Capture g c = λ err err'.
    let asks = rw c.in-Ok-Capture.field-0-is at c.in-Ok-Capture.ensures.action in
    record { spelled = λ other spells. capture_asked _ c.in-Ok-Capture.steps other _ _ _ _ asks spells c.of_capture.ensures (c.capture.ensures err err'); unspelled = λ none. absurd (none asks.command asks.spells) }

pub returns-in-Err-Usage : goal.returns-in-Err-Usage
returns-in-Err-Usage g c = λ err err'. record { spelled = λ other spells. absurd (c.in-Err-Usage.ensures.usage (λ i. Err (c.in-Err-Usage.field-0-is i)) other spells); unspelled = λ none. (inl refl, record { held = refl; moment = refl; taken = refl }) }

pub returns-in-Err-NoMemory : goal.returns-in-Err-NoMemory
returns-in-Err-NoMemory g c = λ err err'. record { spelled = λ other spells. did_starve other _ _ (record { held = refl; moment = refl; taken = refl }); unspelled = λ none. (inr refl, record { held = refl; moment = refl; taken = refl }) }
