-- What frames name is there in a world in which no object and no scope is missing.
use Rattle.std.proofs.Common.{ℕ, ◌≤◌, List, [], Option, Some, None, length, arith}
use Rattle.std.specs.Option.{option_map}
use Rattle.js_value.specs.declared.value.Value.{Value}
use Rattle.js_heap.specs.Chains.{IsBelow}
use Rattle.js_heap.specs.Closed.{Each}
use Rattle.js_heap.specs.Scopes.{scope_number}
use Rattle.js_heap.specs.World.{World}
use Rattle.js_reference.proofs.There.{each_weaker, still_there, value_stays}
use Rattle.js_stmt.specs.Wider.{IsWider}
use Rattle.js_term.specs.declared.context.Context.{Context}
use Rattle.js_operands.specs.ExprMoves.{operand_names}
use Rattle.js_frames.specs.Arenas.{Arenas}
use Rattle.js_frames.specs.Names.{ContextIsThere, ContextsAreThere, FrameIsThere, work_names}
use Rattle.js_frames.specs.Soundness.{contexts_of}
use Rattle.js_frames.specs.declared.frame.Contexts.{Contexts}
use Rattle.js_frames.specs.declared.frame.Frame.{Frame}
use Rattle.js_frames.specs.declared.stack.Stack.{Stack}
use Rattle.js_moves.specs.inner.Places.{Stands}

below-more : (n m : ℕ) (p : Option ℕ) → n ≤ m → IsBelow n p → IsBelow m p
below-more n m None l b = tt
below-more n m (Some k) l b = omega (arith, l, b)

module _ (w w' : World) (wider : IsWider w w') where
  pub context-later : (c : Context) → ContextIsThere w c → ContextIsThere w' c
  context-later c a = record {
    scope = below-more (length w.scopes) (length w'.scopes) (option_map scope_number c.scope)
        wider.scopes a.scope;
    this = value_stays w w' c.this wider.objects a.this;
  }

  contexts-later : (b : Option Contexts) → ContextsAreThere w b → ContextsAreThere w' b
  contexts-later None a = tt
  contexts-later (Some b) a = (context-later b.inner a.0, context-later b.outer a.1)

  module _ {D : Type 0} (dispatched : D → List Value) where
    pub frame-later : (f : Frame D) → FrameIsThere dispatched w f → FrameIsThere dispatched w' f
    frame-later f a = record {
      work = still_there w w' (work_names dispatched f.work []) wider.objects a.work;
      operands = still_there w w' (operand_names f.operands []) wider.objects a.operands;
      contexts = contexts-later (contexts_of f) a.contexts;
    }

    -- frames that wait still stand
    pub stands-later : (ts : Arenas) (fs : List (Frame D)) (s : Stack D)
        → Stands dispatched ts w fs s → Stands dispatched ts w' fs s
    stands-later ts fs s a = record {
      waiting = a.waiting;
      frames = each_weaker (FrameIsThere dispatched w) (FrameIsThere dispatched w') frame-later fs
          a.frames;
      context = context-later s.context a.context;
      base = context-later s.base a.base;
    }
