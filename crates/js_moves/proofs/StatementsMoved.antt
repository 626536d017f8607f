-- What a move of a statement makes of the last frame.
use Rattle.std.proofs.Common.{◌≡◌, List, Option, None, Some, refl, ap, sym, subst}
use Rattle.std.proofs.Common.{ℕ, ◌-◌, get_or, length, ◌∙◌}
use Rattle.std.proofs.lemmas.Option.{get_or_from_slice_get}
use Rattle.std.specs.Prelude.{Result, Ok, Err, OnOk, slice_set, unwrap_or}
use Rattle.std.specs.Option.{option_map}
use Rattle.js_value.specs.declared.value.Value.{Value}
use Rattle.js_value.specs.declared.value.Value.TheVariants.{Undefined}
use Rattle.js_heap.specs.World.{World}
use Rattle.js_tree.specs.TreeAt.{tree_at}
use Rattle.js_tree.specs.declared.node.NodeId.{NodeId}
use Rattle.js_term.specs.Evaluation.{Evaluation}
use Rattle.js_term.specs.Place.Place.{At}
use Rattle.js_term.specs.declared.completion.Completion.{Completion}
use Rattle.js_term.specs.declared.context.Context.{Context}
use Rattle.js_stmt.specs.declared.phase.StmtPhase.{StmtPhase}
use Rattle.js_stmt.specs.declared.stmt_move.StmtMove.{StmtMove}
use Rattle.js_stmt.specs.declared.stmt_move.StmtMove.TheVariants as move
use Rattle.js_rows.specs.Row.{placed}
use Rattle.js_rows.specs.Syntax.{term_at}
use Rattle.js_frames.specs.Arenas.{Arenas, arena_of}
use Rattle.js_frames.specs.Reading.{last}
use Rattle.js_frames.specs.Rows.{frame_row, no_context, place_at, work_row}
use Rattle.js_frames.specs.Soundness.{contexts_of}
use Rattle.js_frames.specs.declared.frame.Contexts.{Contexts}
use Rattle.js_frames.specs.declared.frame.Focus.TheVariants as focus
use Rattle.js_frames.specs.declared.frame.Frame.{Frame}
use Rattle.js_frames.specs.declared.frame.Site.{Site}
use Rattle.js_frames.specs.declared.frame.Work.{Work}
use Rattle.js_frames.specs.declared.stack.Stack.{Stack}
use Rattle.js_frames.specs.inner.Advances.{front}
use Rattle.js_frames.proofs.Tops.{last-written}
use Rattle.js_moves.specs.inner.Places.{MayRest, Puts, Stands, frame_term}
use Rattle.js_moves.specs.inner.StmtPlaces.{IsMoved, LastMoves, Moves, moved_term, rest_term, row_at}
use Rattle.js_moves.specs.inner.StmtPlaces.{text_at}
use Rattle.js_moves.proofs.Standing.{completion-put, frame-put, stands-still, value-put}

-- the last of these frames is written
pub last-moves : {D : Type 0} (c : Context) (m : StmtMove) (fs : List (Frame D)) (n : ℕ)
    (x f y : Frame D) → n ≡ length fs → last fs ≡ Some f → x ≡ get_or fs (n - 1) x
    → (x ≡ f → IsMoved c m f y) → LastMoves c m f fs (slice_set fs (n - 1) y)
last-moves c m fs n x f y e is found moved =
    let same : x ≡ f =
    found ∙ (ap (λ k. get_or fs (k - 1) x) e ∙ get_or_from_slice_get fs (length fs - 1) f x is) in
    record {
      frame = y;
      items = last-written (λ z. y) fs n x f y e is found refl;
      moved = moved same;
    }

map-map : {X Y Z : Type 0} (o : Option X) (g : X → Y) (h : Y → Z)
    → option_map (λ x. h (g x)) o ≡ option_map h (option_map g o)
map-map None g h = refl
map-map (Some x) g h = refl

module _ (D : Type 0) (ts : Arenas) where
  -- the row of a frame, by its contexts
  row-seen : (f : Frame D) → frame_row ts f ≡ row_at ts (contexts_of f) f.site f.work
  row-seen f =
      ap (λ c. placed (place_at ts f.site f.work) (work_row ts (unwrap_or c no_context) f.site
      f.work))
      (map-map f.contexts (λ b. b.value) (λ x. x.inner))

  pub row-of : (b : Option Contexts) (s : Option Site) (v : Work D) (f : Frame D) → f.site ≡ s
      → f.work ≡ v → contexts_of f ≡ b → frame_row ts f ≡ row_at ts b s v
  row-of b s v f site work contexts =
      row-seen f
      ∙ (ap (λ x. row_at ts x f.site f.work) contexts
      ∙ (ap (λ x. row_at ts b x f.work) site ∙ ap (row_at ts b s) work))

  pub term-of : (b : Option Contexts) (s : Option Site) (v : Work D) (e : Evaluation)
      (f : Frame D) → f.site ≡ s → f.work ≡ v → contexts_of f ≡ b → f.operands ≡ e
      → frame_term ts f ≡ rest_term ts (row_at ts b s v) e
  term-of b s v e f site work contexts operands =
      ap (λ r. rest_term ts r f.operands) (row-of b s v f site work contexts)
      ∙ ap (rest_term ts (row_at ts b s v)) operands

module _ (D : Type 0) (dispatched : D → List Value) (ts : Arenas) (w : World) (s s' : Stack D)
  where
    abbrev lower : List (Frame D)
    lower = front s.frames.items

    module _ (context : s'.context ≡ s.context) (base : s'.base ≡ s.base) where
      -- the last frame goes on
      pub moved-last : (m : StmtMove) → s'.focus ≡ s.focus → ((f : Frame D)
          → last s.frames.items ≡ Some f
          → LastMoves s.context m f s.frames.items s'.frames.items)
          → (f : Frame D) → last s.frames.items ≡ Some f → s.focus ≡ focus.Resting
          → Stands dispatched ts w lower s
          → ((f' : Frame D) → IsMoved s.context m f f' → MayRest dispatched ts w s.context f')
          → Puts dispatched ts w s.base lower (moved_term ts s.context f m) s'
      moved-last m same moves f is rests stands may =
          let l : LastMoves s.context m f s.frames.items s'.frames.items = moves f is in
          subst (λ t. Puts dispatched ts w s.base lower t s')
          (term-of D ts _ f.site _ f.operands l.frame l.moved.site l.moved.work l.moved.contexts
          l.moved.operands)
          (frame-put D dispatched ts w s s' lower context base stands l.frame l.items (same ∙ rests)
          (may l.frame l.moved))

      pub goes-on : (p : StmtPhase) → s'.focus ≡ s.focus → ((f : Frame D)
          → last s.frames.items ≡ Some f
          → LastMoves s.context (move.GoesOn p) f s.frames.items s'.frames.items)
          → Moves dispatched ts w s (move.GoesOn p) s'
      goes-on p same moves = moved-last (move.GoesOn p) same moves

      pub names : (v : Value) (xs : List (List ℕ)) → s'.focus ≡ s.focus → ((f : Frame D)
          → last s.frames.items ≡ Some f
          → LastMoves s.context (move.Names v xs) f s.frames.items s'.frames.items)
          → Moves dispatched ts w s (move.Names v xs) s'
      names v xs same moves = moved-last (move.Names v xs) same moves

      pub finally : (o : Option Completion) → s'.focus ≡ s.focus → ((f : Frame D)
          → last s.frames.items ≡ Some f
          → LastMoves s.context (move.Finally o) f s.frames.items s'.frames.items)
          → Moves dispatched ts w s (move.Finally o) s'
      finally o same moves = moved-last (move.Finally o) same moves

      module _ (gone : s'.frames.items ≡ lower) where
        -- the last frame is gone
        pub gives : (v : Value) → s'.focus ≡ focus.Value v → Moves dispatched ts w s (move.Value v) s'
        gives v at f is rests stands there =
            value-put D dispatched ts w s s' lower context base stands v gone at there

        pub finishes : s'.focus ≡ focus.Value Undefined → Moves dispatched ts w s move.Finished s'
        finishes at f is rests stands there =
            value-put D dispatched ts w s s' lower context base stands Undefined gone at tt

        pub vanishes : s'.focus ≡ focus.Value Undefined
            → Moves dispatched ts w s (move.Becomes None) s'
        vanishes at f is rests stands there =
            value-put D dispatched ts w s s' lower context base stands Undefined gone at tt

        pub stops : (k : Completion) → s'.focus ≡ focus.Abrupt k
            → Moves dispatched ts w s (move.Abrupt k) s'
        stops k at f is rests stands there =
            completion-put D dispatched ts w s s' lower context base stands k gone at there

-- s: before the last frame left; s1: behind that; s': with the part
module _ (D : Type 0) (dispatched : D → List Value) (ts : Arenas) (w : World) (s s1 s' : Stack D)
    (context : s1.context ≡ s.context) (base : s1.base ≡ s.base)
    (gone : s1.frames.items ≡ front s.frames.items) (id : NodeId) (x : ℕ)
    (text : (f : Frame D) → last s.frames.items ≡ Some f → x ≡ text_at f.site) where
  part-put : Puts dispatched ts w s1.base s1.frames.items
      (term_at (At x 0) (tree_at (arena_of ts x) id)) s' → (f : Frame D)
      → last s.frames.items ≡ Some f
      → Puts dispatched ts w s.base (front s.frames.items)
      (term_at (At (text_at f.site) 0) (tree_at (arena_of ts (text_at f.site)) id)) s'
  part-put puts f is =
      subst (λ y. Puts dispatched ts w s.base (front s.frames.items)
      (term_at (At y 0) (tree_at (arena_of ts y) id)) s') (text f is)
      (subst (λ b. Puts dispatched ts w b (front s.frames.items)
      (term_at (At x 0) (tree_at (arena_of ts x) id)) s') base
      (subst (λ fs. Puts dispatched ts w s1.base fs
      (term_at (At x 0) (tree_at (arena_of ts x) id)) s') gone puts))

  pub becomes : {A E : Type 0} (r : Result A E)
      → (Stands dispatched ts w s1.frames.items s1 → OnOk r (Puts dispatched ts w s1.base
      s1.frames.items (term_at (At x 0) (tree_at (arena_of ts x) id)) s'))
      → OnOk r (Moves dispatched ts w s (move.Becomes (Some id)) s')
  becomes (Ok u) puts = λ f is rests stands may.
      part-put (puts (subst (λ fs. Stands dispatched ts w fs s1) (sym gone)
      (stands-still D dispatched ts w s s1 (front s.frames.items) context base stands))) f is
  becomes (Err e) puts = tt
