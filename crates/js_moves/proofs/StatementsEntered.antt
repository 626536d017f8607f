-- The body of a function that comes to rest.
use Rattle.std.proofs.Common.{◌≡◌, ◌<◌, List, [], ◌∷◌, ◌++◌, Option, Some, length, refl, ap, sym}
use Rattle.std.proofs.Common.{subst, ◌∙◌}
use Rattle.std.specs.Option.{option_map}
use Rattle.js_value.specs.declared.value.Value.{Value}
use Rattle.js_heap.specs.World.{World}
use Rattle.js_host.specs.Names.{option_names}
use Rattle.js_host.specs.There.{AreThere}
use Rattle.js_operands.specs.ExprMoves.{operand_names}
use Rattle.js_tree.proofs.Held.{kept_at}
use Rattle.js_tree.specs.Arena.{Arena}
use Rattle.js_tree.specs.declared.node.NodeId.{NodeId}
use Rattle.js_tree.specs.declared.script.Kept.{Kept}
use Rattle.js_term.specs.Evaluation.{Evaluation}
use Rattle.js_term.specs.declared.context.Context.{Context}
use Rattle.js_stmt.specs.CodeRows.{labels_around}
use Rattle.js_stmt.specs.Make.{inner_stmt}
use Rattle.js_stmt.specs.NodeRows.{kept_object, node_row, row_by, row_in}
use Rattle.js_stmt.specs.Rows.{StmtRow}
use Rattle.js_stmt.specs.declared.kept.StmtKept.{StmtKept}
use Rattle.js_stmt.specs.declared.phase.StmtPhase.TheVariants as phase
use Rattle.js_rows.specs.Hosted.{PageRow}
use Rattle.js_rows.specs.Row.{placed}
use Rattle.js_rows.specs.Row.Row.{Statement}
use Rattle.js_frames.specs.Arenas.{Arenas, arena_of}
use Rattle.js_frames.specs.Names.{ContextIsThere}
use Rattle.js_frames.specs.Rows.{place_at}
use Rattle.js_frames.specs.Soundness.{HasNode}
use Rattle.js_frames.specs.Soundness.LeadsTo.{Here}
use Rattle.js_frames.specs.declared.frame.Contexts.{Contexts}
use Rattle.js_frames.specs.declared.frame.Focus.TheVariants as focus
use Rattle.js_frames.specs.declared.frame.Frame.{Frame}
use Rattle.js_frames.specs.declared.frame.Site.{Site}
use Rattle.js_frames.specs.declared.frame.StmtState.{StmtState}
use Rattle.js_frames.specs.declared.frame.Work.{Work}
use Rattle.js_frames.specs.declared.frame.Work.TheVariants as work
use Rattle.js_frames.specs.declared.stack.Stack.{Stack}
use Rattle.js_moves.specs.inner.Places.{MayRest, Puts, Stands}
use Rattle.js_moves.specs.inner.StmtPlaces.{IsBody, body_term, rest_term, row_at}
use Rattle.js_moves.proofs.Standing.{frame-put}
use Rattle.js_moves.proofs.StatementsMoved.{term-of}
use Rattle.js_moves.proofs.StatementRests.{rests}

-- the row of a body
pub body-row : (a : Arena) (c : Context) (id outermost : NodeId) (k : StmtKept)
    → id.number < length a.kept
    → row_in a c id outermost phase.Body k ≡ StmtRow.Body c (kept_object k)
body-row a c id outermost k there =
    ap (λ m. row_by
    (λ n. node_row a c (labels_around a (record { outermost = outermost; statement = id })) n
    phase.Body k)
    (option_map (λ (x : Kept). x.node) m)) (kept_at a.kept id.number there).1

abbrev body_state : Site → StmtState
body_state s = record { phase = phase.Body; outermost = s.node }

module _ (D : Type 0) (dispatched : D → List Value) (ts : Arenas) (w : World) (s : Site)
    (inner c : Context) (made : Option Value) (e : Evaluation) (f : Frame D) where
  abbrev contexts : Contexts
  contexts = record { inner = inner; outer = c }

  module _ (is : IsBody s contexts made e f) (there : HasNode ts (Some s)) where
    abbrev kept_work : Work D
    kept_work = work.Statement (body_state s) is.kept

    abbrev body : PageRow D
    body = placed (place_at ts (Some s) kept_work) (Statement (StmtRow.Body inner made))

    body-is : row_at ts (Some contexts) (Some s) kept_work ≡ body
    body-is =
        ap (λ r. placed (place_at ts (Some s) kept_work) (Statement r))
        (body-row (arena_of ts s.text) inner s.node s.node is.kept there
        ∙ ap (StmtRow.Body inner) is.object)

    body-may : AreThere w (option_names made []) → AreThere w (operand_names e [])
        → ContextIsThere w inner → ContextIsThere w c → MayRest dispatched ts w c f
    body-may names operands in_there out_there =
        rests D dispatched ts w s (body_state s) is.kept (Some contexts) e c f is.site is.work
        is.contexts is.operands
        (record {
          node = there;
          leads = Here s.node;
          later = refl;
          context = (
            refl,
            sym (ap (λ r. inner_stmt r c)
                (body-row (arena_of ts s.text) inner s.node s.node is.kept there)),
          );
          kept = subst (AreThere w) (sym is.names) names;
          operands = operands;
          contexts = (in_there, out_there);
        })

    pub body-put : (st st' : Stack D) → st'.context ≡ st.context → st'.base ≡ st.base
        → Stands dispatched ts w st.frames.items st → st.context ≡ c
        → AreThere w (option_names made []) → AreThere w (operand_names e [])
        → ContextIsThere w inner → st'.frames.items ≡ st.frames.items ++ f ∷ []
        → st'.focus ≡ focus.Resting
        → Puts dispatched ts w st.base st.frames.items (body_term ts s inner made e) st'
    body-put st st' context base stands at names operands in_there items rest =
        subst (λ t. Puts dispatched ts w st.base st.frames.items t st')
        (term-of D ts (Some contexts) (Some s) kept_work e f is.site is.work is.contexts
        is.operands
        ∙ ap (λ r. rest_term ts r e) body-is)
        (frame-put D dispatched ts w st st' st.frames.items context base stands f items rest
        (subst (λ x. MayRest dispatched ts w x f) (sym at)
        (body-may names operands in_there (subst (ContextIsThere w) at stands.context))))
