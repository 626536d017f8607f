use Rattle.std.proofs.Common.{sym, ap, ◌∙◌, arith}
use Rattle.std.proofs.lemmas.List.{drop_all}
use Rattle.event_dispatch.specs.Dispatch.{Pending, first_call}
use Rattle.event_dispatch.specs.declared.turn.Phase.TheVariants.{Capturing}
use Rattle.event_dispatch.proofs.Loops.{call_none, call_some}
use Rattle.event_dispatch.proofs.listeners.Listeners.first_call.Goals as goal

abbrev other : Pending
other = record { number = 0; phase = Capturing }

pub loop-at-preserved : goal.loop-at-preserved
loop-at-preserved c =
    c.loop-at.invariant ∙ call_none c.args.self.now.listeners c.args.copy.now c.loop-at.at other c.loop-at-test.true (sym c.call_in.ensures ∙ c.in-None.is)

pub returns-in-Some-clause-first : goal.returns-in-Some-clause-first
returns-in-Some-clause-first c =
    c.loop-at.invariant ∙ call_some c.args.self.now.listeners c.args.copy.now c.loop-at.at other c.in-Some.call c.loop-at-test.true (sym c.call_in.ensures ∙ c.in-Some.is)

pub returns-clause-first : goal.returns-clause-first
returns-clause-first c = c.loop-at.invariant ∙ ap (first_call c.args.self.now.listeners) (drop_all c.loop-at.at c.args.copy.now (omega arith))
