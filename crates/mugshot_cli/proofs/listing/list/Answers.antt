use Rattle.std.proofs.Common.{◌≡◌, ℕ, List, refl}
use Rattle.mug_outside.specs.Told.{TookLess, TookPart, behind}
use Rattle.mugshot_cli.proofs.ListOutcome.{tell_text}
use Rattle.mugshot_cli.proofs.listing.list.Goals as goal

pub returns-in-Err : goal.returns-in-Err
returns-in-Err g c = record { unwritten = record { held = c.read_session.ensures.held; moment = c.read_session.ensures.moment }; listed = (refl, c.in-Err.ensures.refused) }

pub returns-in-Ok-print_items : goal.returns-in-Ok-print_items
returns-in-Ok-print_items g c =
    let items = c.items.ensures.items in
    let took = c.in-Ok-print_items.ensures.ok in
    record {
      unwritten = record { held = c.read_session.ensures.held; moment = c.read_session.ensures.moment };
      listed = tell_text (λ (text : List ℕ). g.O.Sink.taken c.print_items.new.out ≡ behind text (g.O.Sink.taken c.args.out.now)) _ c.in-Ok.session.items c.in-Ok.session.end c.in-Ok.ensures.whole (rw items at took);
    }

pub returns-in-Err-WriteFault : goal.returns-in-Err-WriteFault
returns-in-Err-WriteFault g c =
    let items = c.items.ensures.items in
    let said = rw c.in-Err-WriteFault.field-0-is at c.in-Err-WriteFault.ensures in
    let less = said.err in
    record {
      unwritten = record { held = c.read_session.ensures.held; moment = c.read_session.ensures.moment };
      listed = (
        said.rose refl,
        tell_text (λ (text : List ℕ). TookLess text (g.O.Sink.taken c.args.out.now) (g.O.Sink.taken c.print_items.new.out)) _ c.in-Ok.session.items c.in-Ok.session.end c.in-Ok.ensures.whole (rw items at less),
      );
    }

pub returns : goal.returns
returns g c =
    let items = c.items.ensures.items in
    let said = rw c.in-Err-NoMemory.field-0-is at c.in-Err-NoMemory.ensures in
    let part = said.err in
    record {
      unwritten = record { held = c.read_session.ensures.held; moment = c.read_session.ensures.moment };
      listed = tell_text (λ (text : List ℕ). TookPart text (g.O.Sink.taken c.args.out.now) (g.O.Sink.taken c.print_items.new.out)) _ c.in-Ok.session.items c.in-Ok.session.end c.in-Ok.ensures.whole (rw items at part);
    }
