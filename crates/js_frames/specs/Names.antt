-- What a stack names: values, and the scopes of its contexts.
use Rattle.std.specs.Prelude.{List, [], ◌∷◌, ◌++◌, Option, Some, None, length}
use Rattle.std.specs.Option.{option_map}
use Rattle.js_value.specs.declared.value.Value.{Value}
use Rattle.js_value.specs.declared.value.Value.TheVariants as value
use Rattle.js_heap.specs.Chains.{IsBelow}
use Rattle.js_heap.specs.Closed.{Each, IsThere}
use Rattle.js_heap.specs.Scopes.{scope_number}
use Rattle.js_heap.specs.World.{World}
use Rattle.js_host.specs.Names.{dispatch_names, resume_names}
use Rattle.js_host.specs.There.{AreThere}
use Rattle.js_term.specs.declared.context.Context.{Context}
use Rattle.js_operands.specs.ExprMoves.{operand_names}
use Rattle.js_stmt.specs.CodeRows.{completion_names}
use Rattle.js_stmt.specs.declared.kept.StmtKept.{StmtKept}
use Rattle.js_stmt.specs.declared.kept.StmtKept.TheVariants as kept
use Rattle.js_frames.specs.Soundness.{contexts_of}
use Rattle.js_frames.specs.declared.frame.Contexts.{Contexts}
use Rattle.js_frames.specs.declared.frame.Focus.{Focus}
use Rattle.js_frames.specs.declared.frame.Focus.TheVariants as focus
use Rattle.js_frames.specs.declared.frame.Frame.{Frame}
use Rattle.js_frames.specs.declared.frame.Work.{Work}
use Rattle.js_frames.specs.declared.frame.Work.TheVariants as work
use Rattle.js_frames.specs.declared.stack.Stack.{Stack}

-- the values that a statement's frame keeps beside its operands, in front of others
abbrev pub names_kept : StmtKept → List Value → List Value
names_kept (kept.Names v ks) vs = v ∷ vs
names_kept (kept.Completion k) vs = completion_names k vs
names_kept (kept.Made v) vs = v ∷ vs
names_kept kept.Nothing vs = vs

-- a context's scope and `this` are there
pub record ContextIsThere (w : World) (c : Context) : Type 0 where
  pub scope : IsBelow (length w.scopes) (option_map scope_number c.scope)
  pub this : IsThere w c.this

abbrev pub ContextsAreThere : World → Option Contexts → Type 0
ContextsAreThere w None = Unit {0}
ContextsAreThere w (Some b) = ContextIsThere w b.inner × ContextIsThere w b.outer

abbrev pub focus_names : Focus → List Value
focus_names (focus.Value v) = v ∷ []
focus_names (focus.Abrupt k) = completion_names k []
focus_names focus.Resting = []

-- what a dispatch in progress names is given
module _ {D : Type 0} (dispatched : D → List Value) where
  abbrev pub work_names : Work D → List Value → List Value
  work_names (work.Expression f) vs = vs
  work_names (work.Statement state k) vs = names_kept k vs
  work_names (work.Native q) vs = resume_names q.value vs
  work_names (work.Begin d) vs = dispatch_names d vs
  work_names (work.Fresh e) vs = value.Ref e.value.target ∷ vs
  work_names (work.Dispatch d) vs = dispatched d ++ vs

  pub record FrameIsThere (w : World) (f : Frame D) : Type 0 where
    pub work : AreThere w (work_names f.work [])
    pub operands : AreThere w (operand_names f.operands [])
    pub contexts : ContextsAreThere w (contexts_of f)

  pub record StackIsThere (w : World) (s : Stack D) : Type 0 where
    pub frames : Each (FrameIsThere w) s.frames.items
    pub focus : AreThere w (focus_names s.focus)
    pub context : ContextIsThere w s.context
    pub base : ContextIsThere w s.base
