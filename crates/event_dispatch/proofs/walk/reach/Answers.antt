use Rattle.std.proofs.Common.{◌≤◌, Some, drop, length, sym, ap, ◌∙◌, subst}
use Rattle.event_dispatch.specs.Dispatch.{first_call, turns_of}
use Rattle.event_dispatch.proofs.Loops.{come_none, come_some}
use Rattle.event_dispatch.proofs.walk.reach.Goals as goal

pub loop-at-preserved : goal.loop-at-preserved
loop-at-preserved c =
    let ls = c.args.listeners.now.listeners in
    let copy = c.deref.ensures.value ∙ c.in_ok-copy.ensures in
    c.loop-at.invariant
    ∙ come_none ls c.args.kind.now (turns_of c.args.owners.now c.args.bubbles) c.loop-at.at c.turn-turn.result c.turn-turn.ensures (sym (ap (first_call ls) copy) ∙ c.in-None.ensures.first)

pub returns-in-Some : goal.returns-in-Some
returns-in-Some c =
    let ls = c.args.listeners.now.listeners in
    let found = c.in-Some.found in
    let copy = c.deref.ensures.value ∙ c.in_ok-copy.ensures in
    record {
      is =
          c.loop-at.invariant
          ∙ come_some ls c.args.kind.now (turns_of c.args.owners.now c.args.bubbles) c.loop-at.at c.turn-turn.result found.call (drop found.behind c.in_ok-copy.copy.items) c.turn-turn.ensures
          (sym (ap (first_call ls) copy) ∙ c.in-Some.ensures.first ∙ ap (λ xs. Some (found.call, drop found.behind xs)) c.deref.ensures.value);
      within = subst (λ xs. found.behind ≤ length xs) c.deref.ensures.value c.in-Some.ensures.within;
    }
