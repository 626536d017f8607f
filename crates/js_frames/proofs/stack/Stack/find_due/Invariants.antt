-- The stack stands for the same term.
use Rattle.std.proofs.Common.{◌≡◌, List}
use Rattle.js_value.specs.declared.value.Value.{Value}
use Rattle.js_heap.specs.World.{World}
use Rattle.js_term.specs.Moves.{stack_weight}
use Rattle.js_frames.specs.Names.{StackIsThere}
use Rattle.js_frames.specs.Reading.{stack_of, syntax, term}
use Rattle.js_frames.specs.Soundness.{IsSound}
use Rattle.js_frames.proofs.stack.Stack.find_due.Given as goal

abbrev pub invariant-loop-due : goal.invariant-loop-due
invariant-loop-due g l = record {
  sound : IsSound l.texts l.self;
  same : term l.texts l.self ≡ term l.texts l.initial.self;
  base : l.self.base ≡ l.initial.self.base;
  there : (dispatched : g.row.D.Denot → List Value) (w : World)
      → StackIsThere dispatched w l.initial.self
      → StackIsThere dispatched w l.self;
}

abbrev pub decreases-loop-due : goal.decreases-loop-due
decreases-loop-due g l = stack_weight (syntax l.texts) (stack_of l.texts l.self)
