-- What a node begins as, and what that stands for.
use Rattle.std.proofs.Common.{◌≡◌, ℕ, ◌≤◌, List, [], ◌∷◌, ◌++◌, Option}
use Rattle.std.proofs.Common.{Some, None, length, map, slice_get, refl, ap, sym, ◌∙◌}
use Rattle.std.specs.Option.{option_map}
use Rattle.std.proofs.lemmas.List.{append-nil}
use Rattle.std.proofs.lemmas.Option.{slice_get_past}
use Rattle.js_value.specs.declared.value.Value.{Value}
use Rattle.js_value.specs.declared.value.Value.TheVariants as value
use Rattle.js_tree.specs.Arena.{Arena, IsOrdered, node_at}
use Rattle.js_tree.specs.TreeAt.{body_at, node_with, opened as opened_tree, tree_at}
use Rattle.js_tree.specs.Trees.{Tree, production_of}
use Rattle.js_tree.specs.declared.node.Node.{Node}
use Rattle.js_tree.specs.declared.node.NodeId.{NodeId}
use Rattle.js_tree.specs.declared.script.Kept.{Kept}
use Rattle.js_term.specs.ArenaOperands.{as_operands, begun_as, begun_at, begun_node, node_literal}
use Rattle.js_term.specs.ArenaOperands.{node_operands}
use Rattle.js_term.specs.ArenaSyntax.{operand_focus, tree_focus}
use Rattle.js_term.specs.Evaluation.{Evaluation, focused}
use Rattle.js_term.specs.Frames as frames
use Rattle.js_term.specs.Frames.Focus.{Alone}
use Rattle.js_term.specs.Moves as moves
use Rattle.js_term.specs.Operands.{Labels}
use Rattle.js_term.specs.Place.Place.{At}
use Rattle.js_term.specs.Term.Term.{Val}
use Rattle.js_term.specs.declared.begun.Begun.{Begun}
use Rattle.js_term.specs.declared.begun.Begun.TheVariants as begun
use Rattle.js_term.specs.declared.operands.Operand.{Operand}
use Rattle.js_term.specs.declared.operands.Operand.TheVariants as operand
use Rattle.js_term.proofs.ArenaTrees.{tree-opened}
use Rattle.js_operands.specs.ArenaRows.{row_in, row_of as node_row_of}
use Rattle.js_operands.specs.ExprMoves.{later_row}
use Rattle.js_operands.specs.Rows.{ExprRow}
use Rattle.js_operands.specs.Syntax.{expr_row, tree_row}
use Rattle.js_operands.specs.declared.row.Phase.TheVariants as phase
use Rattle.js_operands.proofs.ArenaRows.{row-tree}
use Rattle.js_stmt.specs.CodeRows.{labels_around}
use Rattle.js_stmt.specs.Syntax.{stmt_row}
use Rattle.js_rows.specs.Forms.{Form}
use Rattle.js_rows.specs.Hosted.{PageRow}
use Rattle.js_rows.specs.Syntax.{has_no_step, row_of}
use Rattle.js_frames.specs.Arenas.{Arenas, arena_of}
use Rattle.js_frames.specs.Begun.{begun_focus, begun_frame, begun_frames, begun_work, focus_by}
use Rattle.js_frames.specs.Begun.{frames_by}
use Rattle.js_frames.specs.Reading.{last, reading, rests, waits}
use Rattle.js_frames.specs.Rows.{frame_row, no_context, place_at, work_row}
use Rattle.js_frames.specs.declared.frame.Frame.{Frame}
use Rattle.js_frames.specs.declared.frame.Site.{Site}
use Rattle.js_frames.proofs.Labels.{either, part, row-by}
use Rattle.js_frames.proofs.Tops.{front-push, last-push}

-- what is no node begins as undefined
pub begun-nothing : (a : Arena) (id : NodeId) → length a.kept ≤ id.number
    → begun_as a id ≡ begun.Value value.Undefined
begun-nothing a id past =
    ap (λ o. begun_at (node_at a) (option_map (λ (k : Kept). k.node) o))
    (slice_get_past a.kept id.number past)

pub frames-nothing : (D : Type 0) (ts : Arenas) (s : Site) (o : NodeId) (a : Arena) (fs : List
    (Frame D)) → arena_of ts s.text ≡ a
    → length a.kept ≤ s.node.number → fs ≡ fs ++ begun_frames ts s o
frames-nothing D ts s o a fs e past =
    let none : begun_frames {D = D} ts s o ≡ [] =
    ap (λ b. frames_by ts s o (begun_as b s.node)) e ∙ ap (frames_by ts s o)
    (begun-nothing a s.node past) in
    sym (ap (λ gs. fs ++ gs) none ∙ append-nil fs)

pub begun-row : (r : ExprRow) → later_row r phase.Begun ≡ r
begun-row ExprRow.This = refl
begun-row r = refl

begun-option : (o : Option ExprRow) → option_map (λ r. later_row r phase.Begun) o ≡ o
begun-option (Some r) = ap (λ x. Some x) (begun-row r)
begun-option None = refl

module _ (D : Type 0) (ts : Arenas) (s : Site) (outermost : NodeId) (ordered : IsOrdered
    (arena_of ts s.text)) where
  abbrev arena : Arena
  arena = arena_of ts s.text

  abbrev around : Labels
  around = labels_around arena (record { outermost = outermost; statement = s.node })

  abbrev tree_by : Option Kept → Tree
  tree_by o = opened_tree (node_with arena.kept (body_at arena)) (body_at arena) o

  abbrev nodes : NodeId → Option Node
  nodes = node_at arena

  tree-by : tree_at arena s.node ≡ tree_by (slice_get arena.kept s.node.number)
  tree-by = tree-opened (body_at arena) arena ordered s.node.number

  -- the row of the frame of a node that is there
  work-same : (k : Kept) (q : Option ExprRow) → row_in arena s.node phase.Begun ≡ q
      → node_at arena s.node ≡ Some k.node → (x : ℕ)
      → record {
        place = At s.text x;
        row = work_row ts {D = D} no_context (Some s)
            (begun_work outermost q);
      }
      ≡ either {D = D} (At s.text x) q (stmt_row around (production_of k.node)
      (part arena around k.node))
  work-same k (Some r) e g x = rw e refl
  work-same k None e g x = rw g refl

  row-here : (k : Kept) → slice_get arena.kept s.node.number ≡ Some k
      → row_in arena s.node phase.Begun ≡ expr_row (production_of k.node)
      (part arena around k.node)
  row-here k e =
      begun-option (node_row_of arena (node_at arena s.node))
      ∙ (row-tree arena ordered s.node ∙ ap tree_row (tree-by ∙ ap tree_by e))

  begun-place : (k : Kept) → slice_get arena.kept s.node.number ≡ Some k → (q : Option ExprRow)
      → place_at ts (Some s) (begun_work {D = D} outermost q) ≡ At s.text k.from
  begun-place k is (Some r) = rw is refl
  begun-place k is None = rw is refl

  pub begun-same : (k : Kept) (e : Evaluation) → slice_get arena.kept s.node.number ≡ Some k
      → frame_row ts (begun_frame {D = D} ts s outermost e)
      ≡ row_of {F = Form D} around (At s.text k.from) (production_of k.node)
      (part arena around k.node)
  begun-same k e is =
      let there : node_at arena s.node ≡ Some k.node = ap (option_map (λ
      (j : Kept). j.node)) is in
      let q = row_in arena s.node phase.Begun in
      let placed = begun-place k is q in
      ap (λ p. record {
        place = p;
        row = work_row ts {D = D} no_context (Some s)
            (begun_work outermost q);
      }) placed
      ∙ (work-same k q refl there k.from
      ∙ sym (row-by D arena (At s.text k.from) k.node around q (sym (row-here k is))))

  -- the stack behind the beginning, with these frames below
  abbrev top_by : (gs : List (Frame D)) → Begun → moves.Stack (PageRow D) Operand
  top_by gs b = reading ts (focus_by b) (gs ++ frames_by ts s outermost b)

  abbrev stack : List (Frame D) → frames.Focus (PageRow D) Operand → moves.Stack
      (PageRow D) Operand
  stack gs t = record { frames = map (waits ts) gs; focus = t }

  value-reading : (gs : List (Frame D)) (v : Value) → top_by gs (begun.Value v) ≡ stack gs
      (Alone (Val v))
  value-reading gs v = ap (λ xs. stack xs (Alone (Val v))) (append-nil gs)

  frame-reading : (gs : List (Frame D)) (e : Evaluation)
      → top_by gs (begun.Operands e) ≡ stack gs (focused (frame_row ts
      (begun_frame {D = D} ts s outermost e)) e)
  frame-reading gs e =
      let f : Frame D = begun_frame ts s outermost e in
      ap (λ xs. stack xs (rests ts (last (gs ++ f ∷ [])))) (front-push gs f) ∙ ap
      (λ o. stack gs (rests ts o)) (last-push gs f)

  node-reading : (gs : List (Frame D)) (k : Kept) (l : Option Value)
      → slice_get arena.kept s.node.number ≡ Some k
      → top_by gs (begun_node nodes k.node l)
      ≡ stack gs (tree_focus has_no_step row_of s.text around (tree_by (Some k))
      (begun_node nodes k.node l))
  node-reading gs k (Some v) is = value-reading gs v
  node-reading gs k None is =
      let e : Evaluation = record { done = []; todo = as_operands (node_operands nodes k.node) } in
      frame-reading gs e ∙ ap (λ r. stack gs (focused r e)) (begun-same k e is)

  kept-reading : (gs : List (Frame D)) (o : Option Kept)
      → slice_get arena.kept s.node.number ≡ o
      → top_by gs (begun_at nodes (option_map (λ (k : Kept). k.node) o))
      ≡ stack gs (tree_focus has_no_step row_of s.text around (tree_by o) (begun_at nodes
      (option_map (λ (k : Kept). k.node) o)))
  kept-reading gs (Some k) is = node-reading gs k (node_literal k.node) is
  kept-reading gs None is = value-reading gs value.Undefined

  -- a node that begins stands for its term
  pub begun-reading : (gs : List (Frame D)) → reading ts (begun_focus ts s)
      (gs ++ begun_frames ts s outermost)
      ≡ stack gs (operand_focus has_no_step row_of s.text around arena (operand.Node s.node))
  begun-reading gs =
      kept-reading gs (slice_get arena.kept s.node.number) refl
      ∙ ap (λ t. stack gs (tree_focus has_no_step row_of s.text around t
      (begun_as arena s.node))) (sym tree-by)
