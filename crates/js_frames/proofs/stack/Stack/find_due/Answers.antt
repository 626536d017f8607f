use Rattle.std.proofs.Common.{subst, sym, ◌∙◌}
use Rattle.js_frames.specs.Names.{StackIsThere}
use Rattle.js_frames.specs.inner.Advances.{Advanced}
use Rattle.js_frames.proofs.stack.Stack.find_due.Goals as goal

pub returns-in-Some-clause-there : goal.returns-in-Some-clause-there
returns-in-Some-clause-there g c = λ dispatched w h.
    let found = subst (Advanced c.args.texts.now c.loop-due.self c.advance.new.self) c.in-Some.is
    c.in_ok-due.ensures in
    subst (StackIsThere dispatched w) (sym found.0) (c.loop-due.invariant.there dispatched w h)

pub loop-due-preserved : goal.loop-due-preserved
loop-due-preserved g c =
    let moved = subst (Advanced c.args.texts.now c.loop-due.self c.advance.new.self) c.in_default.is
    c.in_ok-due.ensures in
    record {
      sound = moved.sound;
      same = moved.same ∙ c.loop-due.invariant.same;
      base = moved.base ∙ c.loop-due.invariant.base;
      there = λ dispatched w h. moved.there dispatched w
          (c.loop-due.invariant.there dispatched w h);
    }
