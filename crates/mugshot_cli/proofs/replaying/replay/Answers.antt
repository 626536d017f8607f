use Rattle.std.proofs.Common.{refl}
use Rattle.mugshot_cli.proofs.ReplayOutcome.{tell_head, tell_none}
use Rattle.mugshot_cli.proofs.replaying.replay.Goals as goal

pub returns-in-Err : goal.returns-in-Err
returns-in-Err g c = record { unwritten = record { held = c.read_session.ensures.held; moment = c.read_session.ensures.moment }; replayed = (refl, c.in-Err.ensures.refused) }

pub returns-in-Some : goal.returns-in-Some
returns-in-Some g c =
    let items = c.items.ensures.items in
    let begins = c.in-Some.ensures in
    record {
      unwritten = record { held = c.read_session.ensures.held; moment = c.read_session.ensures.moment };
      replayed = c.replay_page.ensures _ _ _ _ _ _ (tell_head _ c.in-Ok.session.items c.in-Ok.session.end _ _ _ c.in-Ok.ensures.whole (rw items at begins));
    }

pub returns : goal.returns
returns g c =
    let items = c.items.ensures.items in
    let none = c.in-None.ensures in
    record {
      unwritten = record { held = c.read_session.ensures.held; moment = c.read_session.ensures.moment };
      replayed = (refl, tell_none _ c.in-Ok.session.items c.in-Ok.session.end c.in-Ok.ensures.whole (rw items at none));
    }
