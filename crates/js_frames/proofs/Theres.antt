-- What a stack names is there behind a free move.
use Rattle.std.proofs.Common.{◌≡◌, List, [], ◌∷◌, ◌++◌, Option, Some, None, drop}
use Rattle.std.proofs.Common.{sym, subst}
use Rattle.std.specs.Prelude.{unwrap_or}
use Rattle.std.specs.Option.{option_map}
use Rattle.js_value.specs.declared.value.Value.{Value}
use Rattle.js_value.specs.declared.value.Value.TheVariants as value
use Rattle.js_heap.specs.Closed.{Each, IsThere}
use Rattle.js_heap.specs.World.{World}
use Rattle.js_host.specs.There.{AreThere}
use Rattle.js_host.proofs.Lists.{each-append, each-left, each-right}
use Rattle.js_tree.specs.Arena.{Arena, node_at}
use Rattle.js_tree.specs.declared.node.Node.{Node}
use Rattle.js_tree.specs.declared.node.Node.TheVariants as node
use Rattle.js_tree.specs.declared.node.NodeId.{NodeId}
use Rattle.js_term.specs.ArenaOperands.{as_operands, begun_as, begun_at, begun_node, node_literal}
use Rattle.js_term.specs.ArenaOperands.{node_operands}
use Rattle.js_term.specs.Evaluation.{Evaluation, taken}
use Rattle.js_term.specs.declared.begun.Begun.{Begun}
use Rattle.js_term.specs.declared.begun.Begun.TheVariants as begun
use Rattle.js_term.specs.declared.context.Context.{Context}
use Rattle.js_term.specs.declared.operands.Operand.{Operand}
use Rattle.js_term.specs.declared.operands.Operand.TheVariants as operand
use Rattle.js_operands.specs.ArenaRows.{row_in}
use Rattle.js_operands.specs.ExprMoves.{operand_names, values_coming}
use Rattle.js_operands.specs.Rows.{ExprRow}
use Rattle.js_operands.specs.declared.row.Phase.TheVariants as phase
use Rattle.js_frames.specs.Arenas.{Arenas, arena_of}
use Rattle.js_frames.specs.Begun.{begun_focus, begun_frames, begun_work, focus_by, frames_by}
use Rattle.js_frames.specs.Names.{ContextIsThere, ContextsAreThere, FrameIsThere, StackIsThere}
use Rattle.js_frames.specs.Names.{focus_names, work_names}
use Rattle.js_frames.specs.Soundness.{contexts_of}
use Rattle.js_frames.specs.declared.frame.Contexts.{Contexts}
use Rattle.js_frames.specs.declared.frame.Focus.TheVariants as focus
use Rattle.js_frames.specs.declared.frame.Frame.{Frame}
use Rattle.js_frames.specs.declared.frame.Site.{Site}
use Rattle.js_frames.specs.declared.stack.Stack.{Stack}
use Rattle.js_frames.specs.inner.Advances.{inner_in, outer_in, with_value}

module _ (w : World) where
  coming-drop : (xs : List Operand) → AreThere w (values_coming xs) → AreThere w (values_coming
      (drop 1 xs))
  coming-drop [] h = tt
  coming-drop (operand.Value v ∷ xs) h = h.1
  coming-drop (operand.Node n ∷ xs) h = h

  taken-there : (v : Value) (e : Evaluation) → IsThere w v → AreThere w (operand_names e [])
      → AreThere w (operand_names (taken v e) [])
  taken-there v e a h =
      let all = each-left (IsThere w) (e.done ++ values_coming e.todo) [] h in
      let done = each-left (IsThere w) e.done (values_coming e.todo) all in
      let coming = coming-drop e.todo (each-right (IsThere w) e.done (values_coming e.todo) all) in
      each-append (IsThere w) ((e.done ++ v ∷ []) ++ values_coming (drop 1 e.todo)) []
      (each-append (IsThere w) (e.done ++ v ∷ []) (values_coming (drop 1 e.todo)) (each-append
      (IsThere w) e.done (v ∷ []) done (a, tt)) coming) tt

  -- the value of the next operand
  pub next-there : (v : Value) (todo : List Operand) (e : Evaluation)
      → e.todo ≡ operand.Value v ∷ todo → AreThere w (operand_names e []) → IsThere w v
  next-there v todo e is h =
      let all = each-left (IsThere w) (e.done ++ values_coming e.todo) [] h in
      let coming = each-right (IsThere w) e.done (values_coming e.todo) all in
      (subst (λ xs. AreThere w (values_coming xs)) is coming).0

  coming-nodes : (ids : List NodeId) → AreThere w (values_coming (as_operands ids))
  coming-nodes [] = tt
  coming-nodes (id ∷ ids) = coming-nodes ids

  -- what a node begins as names nothing
  pub BegunIsThere : Begun → Type 0
  BegunIsThere (begun.Value v) = IsThere w v
  BegunIsThere (begun.Operands e) = AreThere w (operand_names e [])

  LiteralIsThere : Option Value → Type 0
  LiteralIsThere (Some v) = IsThere w v
  LiteralIsThere None = Unit {0}

  literal-there : (n : Node) → LiteralIsThere (node_literal n)
  unfolding LiteralIsThere
  literal-there node.Null = tt
  literal-there (node.Bool b) = tt
  literal-there (node.Number z) = tt
  literal-there (node.Text t) = tt
  literal-there n = tt

  node-there : (f : NodeId → Option Node) (n : Node) (o : Option Value) → LiteralIsThere o
      → BegunIsThere (begun_node f n o)
  unfolding LiteralIsThere BegunIsThere
  node-there f n (Some v) h = h
  node-there f n None h = each-append (IsThere w) (values_coming (as_operands
      (node_operands f n))) [] (coming-nodes (node_operands f n)) tt

  option-there : (f : NodeId → Option Node) (o : Option Node) → BegunIsThere (begun_at f o)
  unfolding BegunIsThere
  option-there f (Some n) = node-there f n (node_literal n) (literal-there n)
  option-there f None = tt

  pub begun-there : (a : Arena) (id : NodeId) → BegunIsThere (begun_as a id)
  begun-there a id = option-there (node_at a) (node_at a id)

  context-inner : (b : Option Contexts) (c : Context) → ContextsAreThere w b
      → ContextIsThere w c → ContextIsThere w (unwrap_or (option_map (λ x. x.inner) b) c)
  context-inner (Some b) c h k = h.0
  context-inner None c h k = k

  pub context-outer : (b : Option Contexts) (c : Context) → ContextsAreThere w b
      → ContextIsThere w c → ContextIsThere w (unwrap_or (option_map (λ x. x.outer) b) c)
  context-outer (Some b) c h k = h.1
  context-outer None c h k = k

  module _ (D : Type 0) (dispatched : D → List Value) where
    abbrev FrameHas : Frame D → Type 0
    FrameHas f = FrameIsThere dispatched w f

    with-value-there : (v : Value) (f : Frame D) → IsThere w v → FrameHas f → FrameHas
        (with_value v f)
    with-value-there v f a h = record {
      work = h.work;
      operands = taken-there v f.operands a
          h.operands;
      contexts = h.contexts;
    }

    begun-work-there : (o : NodeId) (q : Option ExprRow) → AreThere w (work_names dispatched
        (begun_work o q) [])
    begun-work-there o (Some r) = tt
    begun-work-there o None = tt

    module _ (ts : Arenas) (s : Site) (o : NodeId) where
      pub frames-there : (b : Begun) → BegunIsThere b → Each FrameHas (frames_by ts s o b)
      unfolding BegunIsThere
      frames-there (begun.Value v) h = tt
      frames-there (begun.Operands e) h = (
        record {
          work = begun-work-there o (row_in (arena_of ts s.text) s.node phase.Begun);
          operands = h;
          contexts = tt;
        },
        tt,
      )

      pub focus-there : (b : Begun) → BegunIsThere b → AreThere w (focus_names (focus_by b))
      unfolding BegunIsThere
      focus-there (begun.Value v) h = (h, tt)
      focus-there (begun.Operands e) h = tt

    module _ (s s' : Stack D) (fs : List (Frame D)) (f : Frame D)
        (is : s.frames.items ≡ fs ++ f ∷ []) (base : s'.base ≡ s.base)
        (h : StackIsThere dispatched w s) where
      all : Each FrameHas (fs ++ f ∷ [])
      all = subst (Each FrameHas) is h.frames

      lower : Each FrameHas fs
      lower = each-left FrameHas fs (f ∷ []) all

      top : FrameHas f
      top = (each-right FrameHas fs (f ∷ []) all).0

      same-base : ContextIsThere w s'.base
      same-base = subst (ContextIsThere w) (sym base) h.base

      resting-there : (v : Value) → IsThere w v → s'.focus ≡ focus.Resting
          → s'.frames.items ≡ fs ++ with_value v f ∷ []
          → ContextIsThere w s'.context → StackIsThere dispatched w s'
      resting-there v there at e context = record {
        frames = subst (Each FrameHas) (sym e) (each-append FrameHas fs
            (with_value v f ∷ []) lower (with-value-there v f there top, tt));
        focus = subst (λ t. AreThere w (focus_names t)) (sym at) tt;
        context = context;
        base = same-base;
      }

      pub value-there : (v : Value) (todo : List Operand)
          → f.operands.todo ≡ operand.Value v ∷ todo → s'.focus ≡ focus.Resting
          → s'.frames.items ≡ fs ++ with_value v f ∷ [] → s'.context ≡ s.context
          → StackIsThere dispatched w s'
      value-there v todo next at e c =
          resting-there v (next-there v todo f.operands next top.operands) at e (subst
          (ContextIsThere w) (sym c) h.context)

      pub take-there : (v : Value) → s.focus ≡ focus.Value v → s'.focus ≡ focus.Resting
          → s'.frames.items ≡ fs ++ with_value v f ∷ [] → s'.context ≡ outer_in f
          s.context → StackIsThere dispatched w s'
      take-there v from at e c =
          resting-there v (subst (λ t. AreThere w (focus_names t)) from h.focus).0 at e
          (subst (ContextIsThere w) (sym c) (context-outer
          (contexts_of f) s.context top.contexts h.context))

      pub finish-there : s'.focus ≡ focus.Value value.Undefined → s'.frames.items ≡ fs
          → s'.context ≡ s.context → StackIsThere dispatched w s'
      finish-there at e c = record {
        frames = subst (Each FrameHas) (sym e) lower;
        focus = subst (λ t. AreThere w (focus_names t)) (sym at) (tt, tt);
        context = subst (ContextIsThere w) (sym c) h.context;
        base = same-base;
      }

      pub begin-there : (ts : Arenas) (x : Site) (o : NodeId) → s'.focus ≡ begun_focus ts x
          → s'.frames.items ≡ (fs ++ f ∷ []) ++ begun_frames ts x o
          → s'.context ≡ inner_in f s.context → StackIsThere dispatched w s'
      begin-there ts x o at e c =
          let b = begun-there (arena_of ts x.text) x.node in
          record {
            frames =
                subst (Each FrameHas) (sym e)
                (each-append FrameHas (fs ++ f ∷ []) (begun_frames ts x o) all
                (frames-there ts x o (begun_as (arena_of ts x.text) x.node) b));
            focus = subst (λ t. AreThere w (focus_names t)) (sym at) (focus-there ts x o (begun_as
                (arena_of ts x.text) x.node) b);
            context = subst (ContextIsThere w) (sym c) (context-inner
                (contexts_of f) s.context top.contexts h.context);
            base = same-base;
          }
