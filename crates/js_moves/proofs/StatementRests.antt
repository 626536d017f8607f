-- The frame of a statement that goes on, or of a body, may rest.
use Rattle.std.proofs.Common.{◌≡◌, Bool, true, false, List, [], ◌∷◌, ◌++◌, Option, None, Some}
use Rattle.std.proofs.Common.{length, refl, ap, sym, subst, ◌∙◌}
use Rattle.std.specs.Prelude.{unwrap_or}
use Rattle.std.specs.Option.{option_map}
use Rattle.js_value.specs.declared.value.Value.{Value}
use Rattle.js_heap.specs.Chains.{IsBelow}
use Rattle.js_heap.specs.Closed.{IsThere}
use Rattle.js_heap.specs.World.{World}
use Rattle.js_host.proofs.Lists.{each-append, each-left}
use Rattle.js_host.specs.There.{AreThere}
use Rattle.js_operands.specs.ExprMoves.{operand_names, values_coming as coming_names}
use Rattle.js_tree.specs.declared.node.Node.{Node}
use Rattle.js_tree.specs.declared.node.Node.TheVariants as node
use Rattle.js_term.specs.Evaluation.{Evaluation}
use Rattle.js_term.specs.Frames.{passes}
use Rattle.js_term.specs.Place.{Place}
use Rattle.js_term.specs.declared.completion.Completion.{Completion}
use Rattle.js_term.specs.declared.completion.Completion.TheVariants as completion
use Rattle.js_term.specs.declared.context.Context.{Context}
use Rattle.js_term.specs.declared.operands.Operand.{Operand}
use Rattle.js_term.specs.declared.operands.Operand.TheVariants as operand
use Rattle.js_stmt.specs.CodeRows.{completion_names, kept_names, move_names, scope_entered}
use Rattle.js_stmt.specs.Lent.{IsLent, kept_over}
use Rattle.js_stmt.specs.Rows.{StmtRow}
use Rattle.js_stmt.specs.Shapes.{IsNext, IsShaped, follows, values_coming}
use Rattle.js_stmt.specs.declared.kept.StmtKept.{StmtKept}
use Rattle.js_stmt.specs.declared.kept.StmtKept.TheVariants as kept
use Rattle.js_stmt.specs.declared.phase.StmtPhase.{StmtPhase}
use Rattle.js_stmt.specs.declared.phase.StmtPhase.TheVariants as phase
use Rattle.js_stmt.specs.declared.row.StmtRow.{StmtRow as CodeRow}
use Rattle.js_stmt.specs.declared.stmt_move.StmtMove.{StmtMove}
use Rattle.js_stmt.specs.declared.stmt_move.StmtMove.TheVariants as move
use Rattle.js_stmt.proofs.Later.{catch_runs, stands}
use Rattle.js_rows.specs.Forms.{Form}
use Rattle.js_rows.specs.Row.{placed}
use Rattle.js_rows.specs.Row.Row.{Statement}
use Rattle.js_frames.specs.Arenas.{Arenas, arena_of}
use Rattle.js_frames.specs.Names.{ContextIsThere, ContextsAreThere, FrameIsThere, names_kept}
use Rattle.js_frames.specs.Names.{work_names}
use Rattle.js_frames.specs.Rows.{frame_row, no_context, place_at, statement_at}
use Rattle.js_frames.specs.Soundness.{AwaitsBody, HasContexts, HasNode, IsLabelled, IsPlaced}
use Rattle.js_frames.specs.Soundness.{IsResting, LeadsTo, WorkHasTarget, WorkIsLabelled}
use Rattle.js_frames.specs.Soundness.{contexts_of, moved_rows}
use Rattle.js_frames.specs.declared.frame.Contexts.{Contexts}
use Rattle.js_frames.specs.declared.frame.Frame.{Frame}
use Rattle.js_frames.specs.declared.frame.Site.{Site}
use Rattle.js_frames.specs.declared.frame.StmtState.{StmtState}
use Rattle.js_frames.specs.declared.frame.Work.{Work}
use Rattle.js_frames.specs.declared.frame.Work.TheVariants as work
use Rattle.js_moves.specs.inner.Places.{MayRest}
use Rattle.js_moves.specs.inner.StmtPlaces.{MayMove, in_phase, keeping, phase_contexts}
use Rattle.js_moves.specs.inner.StmtPlaces.{row_at}
use Rattle.js_moves.proofs.StatementsMoved.{row-of}

-- no statement makes an early step
statement-passes : (D : Type 0) (p : Place) (r : StmtRow) (done vs : List Value)
    → passes moved_rows.is_early (placed {F = Form D} p (Statement r)) done vs ≡ true
statement-passes D p r done [] = refl
statement-passes D p r done (v ∷ vs) = statement-passes D p r (done ++ v ∷ []) vs

-- in which a statement begins
abbrev pub is_begun : StmtPhase → Bool
is_begun phase.Begun = true
is_begun p = false

awaits-nothing : (n : Option Node) (p : StmtPhase) (xs : List Operand) → is_begun p ≡ false
    → AwaitsBody n p xs
awaits-nothing None p xs later = tt
awaits-nothing (Some (node.Labelled l s)) phase.Begun xs later = cc
awaits-nothing (Some (node.Labelled l s)) p xs later = tt
awaits-nothing (Some n) p xs later = tt

-- c: where the frame stands. b: its contexts. e: its operands.
module _ (D : Type 0) (dispatched : D → List Value) (ts : Arenas) (w : World) (s : Site)
    (state : StmtState) (k : StmtKept) (b : Option Contexts) (e : Evaluation) (c : Context) where
  abbrev here : Work D
  here = work.Statement state k

  -- what such a frame stands on
  pub record Rests : Type 0 where
    pub node : HasNode ts (Some s)
    pub leads : LeadsTo (arena_of ts s.text) state.outermost s.node
    pub later : is_begun state.phase ≡ false
    pub context : HasContexts (row_at ts b (Some s) here) c b
    pub kept : AreThere w (names_kept k [])
    pub operands : AreThere w (operand_names e [])
    pub contexts : ContextsAreThere w b

  module _ (f : Frame D) (site : f.site ≡ Some s) (is : f.work ≡ here)
      (contexts : contexts_of f ≡ b) (operands : f.operands ≡ e) (h : Rests) where
    row-is : frame_row ts f ≡ row_at ts b (Some s) here
    row-is = row-of D ts b (Some s) here f site is contexts

    is-placed : IsPlaced ts f
    is-placed =
        let labelled : IsLabelled (arena_of ts s.text) s.node state f.operands.todo =
        record { leads = h.leads; body = awaits-nothing _ state.phase f.operands.todo h.later } in
        record {
          node = subst (HasNode ts) (sym site) h.node;
          labels =
              subst (λ x. WorkIsLabelled ts x f.work f.operands.todo) (sym site)
              (subst (λ v. WorkIsLabelled ts (Some s) v f.operands.todo) (sym is) labelled);
          target = subst (λ v. WorkHasTarget ts f.site v f.operands) (sym is) tt;
        }

    is-resting : IsResting ts c f
    is-resting = record {
      passes =
          subst (λ r. passes moved_rows.is_early r [] f.operands.done ≡ true) (sym row-is)
          (statement-passes D (place_at ts (Some s) here)
          (statement_at ts (unwrap_or (option_map (λ x. x.inner) b) no_context) (Some s) state k) []
          f.operands.done);
      context =
          subst (λ r. HasContexts r c (contexts_of f)) (sym row-is)
          (subst (HasContexts (row_at ts b (Some s) here) c) (sym contexts) h.context);
    }

    is-there : FrameIsThere dispatched w f
    is-there = record {
      work = subst (λ v. AreThere w (work_names dispatched v [])) (sym is) h.kept;
      operands = subst (λ x. AreThere w (operand_names x [])) (sym operands) h.operands;
      contexts = subst (ContextsAreThere w) (sym contexts) h.contexts;
    }

    pub rests : MayRest dispatched ts w c f
    rests = record { placed = is-placed; rests = is-resting; there = is-there }

completion-alone : (w : World) (k : Completion) (xs : List Value)
    → AreThere w (completion_names k xs) → AreThere w (completion_names k [])
completion-alone w (completion.Return v) xs h = (h.0, tt)
completion-alone w (completion.Throw v) xs h = (h.0, tt)
completion-alone w k xs h = tt

kept-alone : (w : World) (o : Option Completion) (xs : List Value)
    → AreThere w (kept_names o xs) → AreThere w (names_kept (kept_over o) [])
kept-alone w None xs h = tt
kept-alone w (Some k) xs h = completion-alone w k xs h

behind-completion : (w : World) (k : Completion) (xs : List Value)
    → AreThere w (completion_names k xs) → AreThere w xs
behind-completion w (completion.Return v) xs h = h.1
behind-completion w (completion.Throw v) xs h = h.1
behind-completion w k xs h = h

behind-kept : (w : World) (o : Option Completion) (xs : List Value) → AreThere w (kept_names o xs)
    → AreThere w xs
behind-kept w None xs h = h
behind-kept w (Some k) xs h = behind-completion w k xs h

-- parts of a text name no values
coming-nodes : (w : World) (xs : List Operand) → values_coming xs ≡ []
    → AreThere w (coming_names xs)
coming-nodes w [] none = tt
coming-nodes w (operand.Value v ∷ xs) none = absurd cc
coming-nodes w (operand.Node id ∷ xs) none = coming-nodes w xs none

done-names : (w : World) (e : Evaluation) (xs : List Value) → values_coming e.todo ≡ []
    → AreThere w (e.done ++ xs) → AreThere w (operand_names e [])
done-names w e xs none h =
    each-append (IsThere w) (e.done ++ coming_names e.todo) []
    (each-append (IsThere w) e.done (coming_names e.todo) (each-left (IsThere w) e.done xs h)
    (coming-nodes w e.todo none)) tt

later-phase : (r : CodeRow) (p : StmtPhase) → follows r p ≡ true → is_begun p ≡ false
later-phase r phase.Begun is = cc
later-phase r p is = refl

-- f: the frame over the operands that its step has left
module _ (D : Type 0) (dispatched : D → List Value) (ts : Arenas) (w : World) (c : Context)
    (f : Frame D) (s : Site) (state : StmtState) (k : StmtKept) (r : CodeRow) where
  -- what the step of a statement's frame in this context tells of its move
  pub record HasLeft (m : StmtMove) (xs : List Value) : Type 0 where
    pub site : f.site ≡ Some s
    pub work : f.work ≡ work.Statement state k
    pub node : HasNode ts (Some s)
    pub leads : LeadsTo (arena_of ts s.text) state.outermost s.node
    pub lent : IsLent (arena_of ts s.text) s.node state.outermost k r
    pub phase : IsNext r m
    pub shape : IsShaped m f.operands.todo
    pub names : AreThere w (move_names m f.operands.done xs)
    pub scope : IsBelow (length w.scopes) (scope_entered m)
    pub kept : AreThere w (names_kept k [])
    pub context : ContextIsThere w c

  abbrev in_state : StmtPhase → StmtState
  in_state p = record state { phase = p }

  abbrev later_work : StmtPhase → StmtKept → Work D
  later_work p l = work.Statement (in_state p) l

  -- where the operands of a later phase run
  stand-in : (p : StmtPhase) (l : StmtKept)
      → IsLent (arena_of ts s.text) s.node state.outermost l r → follows r p ≡ true
      → HasContexts (row_at ts (phase_contexts p c) (Some s) (later_work p l)) c
      (phase_contexts p c)
  stand-in phase.Begun l lent is = absurd cc
  stand-in (phase.Catch x) l lent is =
      let inner : Context = record { text = c.text; scope = Some x; this = c.this } in
      (refl, sym (catch_runs (arena_of ts s.text) inner c s.node state.outermost r x l lent is))
  stand-in phase.Body l lent is = absurd cc
  stand-in p l lent is =
      stands (arena_of ts s.text) no_context c s.node state.outermost p l refl

  contexts-there : (p : StmtPhase) → IsBelow (length w.scopes) (scope_entered (move.GoesOn p))
      → ContextIsThere w c → ContextsAreThere w (phase_contexts p c)
  contexts-there (phase.Catch x) scope context =
      (record { scope = scope; this = context.this }, context)
  contexts-there p scope context = tt

  pub may-move : (m : StmtMove) (xs : List Value) → HasLeft m xs → MayMove dispatched ts w c f m
  may-move move.Finished xs h = tt
  may-move (move.Value v) xs h = h.names.0
  may-move (move.Abrupt q) xs h = completion-alone w q xs h.names
  may-move (move.Becomes id) xs h = tt
  may-move (move.GoesOn p) xs h = λ f' is.
      rests D dispatched ts w s (in_state p) k (phase_contexts p c) f.operands c f'
      (is.site ∙ h.site) (is.work ∙ ap (in_phase p) h.work) is.contexts is.operands
      (record {
        node = h.node;
        leads = h.leads;
        later = later-phase r p h.phase;
        context = stand-in p k h.lent h.phase;
        kept = h.kept;
        operands = done-names w f.operands xs h.shape h.names;
        contexts = contexts-there p h.scope h.context;
      })
  may-move (move.Names v ks) xs h = λ f' is.
      rests D dispatched ts w s (in_state (phase.Names 0)) (kept.Names v ks) None f.operands c f'
      (is.site ∙ h.site)
      (is.work ∙ ap (keeping (phase.Names 0) (kept.Names v ks)) h.work) is.contexts is.operands
      (record {
        node = h.node;
        leads = h.leads;
        later = refl;
        context = stands (arena_of ts s.text) no_context c s.node state.outermost (phase.Names 0)
            (kept.Names v ks) refl;
        kept = (h.names.0, tt);
        operands = done-names w f.operands xs h.shape h.names.1;
        contexts = tt;
      })
  may-move (move.Finally o) xs h = λ f' is.
      rests D dispatched ts w s (in_state phase.Finally) (kept_over o) None f.operands c f'
      (is.site ∙ h.site)
      (is.work ∙ ap (keeping phase.Finally (kept_over o)) h.work) is.contexts is.operands
      (record {
        node = h.node;
        leads = h.leads;
        later = refl;
        context = stands (arena_of ts s.text) no_context c s.node state.outermost phase.Finally
            (kept_over o) refl;
        kept = kept-alone w o (f.operands.done ++ xs) h.names;
        operands = done-names w f.operands xs h.shape
            (behind-kept w o (f.operands.done ++ xs) h.names);
        contexts = tt;
      })
