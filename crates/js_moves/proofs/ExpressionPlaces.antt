-- What comes in the last frame's place, or above it.
use Rattle.std.proofs.Common.{◌≡◌, List, [], ◌∷◌, ◌++◌, Option, Some, None, Result, Ok, Err, OnOk}
use Rattle.std.proofs.Common.{refl, sym, subst, ◌∙◌}
use Rattle.js_value.specs.declared.value.Value.{Value}
use Rattle.js_value.specs.declared.value.Value.TheVariants.{Undefined}
use Rattle.js_heap.specs.World.{World}
use Rattle.js_host.specs.There.{AreThere}
use Rattle.js_host.proofs.Lists.{each-append}
use Rattle.js_term.specs.Operands as operands
use Rattle.js_term.specs.Place.Place.{Host}
use Rattle.js_term.specs.Term.{Term}
use Rattle.js_term.specs.Term.Term.{Val}
use Rattle.js_tree.specs.Arena.{empty}
use Rattle.js_tree.specs.TreeAt.{node_with, tree_at}
use Rattle.js_tree.specs.declared.node.NodeId.{NodeId}
use Rattle.js_operands.specs.ExprMoves.{conversion_names}
use Rattle.js_operands.specs.declared.expr_move.Conversion.{Conversion}
use Rattle.js_operands.specs.declared.row.Phase.{Phase}
use Rattle.js_rows.specs.Forms.{Form}
use Rattle.js_rows.specs.Hosted.{PageRow}
use Rattle.js_rows.specs.Syntax.{term_at}
use Rattle.js_frames.specs.Arenas.{Arenas}
use Rattle.js_frames.specs.Names.{ContextIsThere, FrameIsThere}
use Rattle.js_frames.specs.Soundness.{AreWaiting, HasNode}
use Rattle.js_frames.specs.declared.frame.Frame.{Frame}
use Rattle.js_frames.specs.declared.frame.Site.{Site}
use Rattle.js_frames.specs.declared.stack.Stack.{Stack}
use Rattle.js_frames.specs.inner.Advances.{inner_in}
use Rattle.js_frames.proofs.Kept.{waits-now}
use Rattle.js_moves.specs.inner.ExprPlaces.{MayConvert, awaiting_term, behind, converted}
use Rattle.js_moves.specs.inner.Places.{MayWait, Puts, Stands}
use Rattle.js_moves.proofs.ConversionTerms.{puts-around}
use Rattle.js_moves.proofs.Standing.{stands-still}

pub behind-site : {D : Type 0} (f : Frame D) (o : Option Phase) → (behind f o).site ≡ f.site
behind-site f None = refl
behind-site f (Some g) = refl

-- as the place is known under another name
pub behind-at : {D : Type 0} (f : Frame D) (o : Option Phase) (site : Option Site) → f.site ≡ site
    → (behind f o).site ≡ site
behind-at f o site e = behind-site f o ∙ e

-- no part of no text
pub nothing-there : {D : Type 0} (id : NodeId) → term_at {F = Form D} Host (tree_at empty id) ≡ Val Undefined
unfolding node_with operands.term_of
nothing-there id = refl

pub ok-weaker : {A E : Type 0} (r : Result A E) (P Q : Type 0) → (P → Q) → OnOk r P → OnOk r Q
ok-weaker (Ok a) P Q f p = f p
ok-weaker (Err e) P Q f p = tt

module _ {D : Type 0} (dispatched : D → List Value) (ts : Arenas) (w : World) where
  module _ (s s1 s2 : Stack D) (fs : List (Frame D)) (context : s1.context ≡ s.context)
      (base : s1.base ≡ s.base) (stands : Stands dispatched ts w fs s) where
    still : Stands dispatched ts w fs s1
    still = stands-still D dispatched ts w s s1 fs context base stands

    -- above the frames that are left
    pub in-place : (t : Term (PageRow D)) → s1.frames.items ≡ fs
        → (Stands dispatched ts w s1.frames.items s1
        → Puts dispatched ts w s1.base s1.frames.items t s2)
        → Puts dispatched ts w s.base fs t s2
    in-place t left puts =
        let now : Stands dispatched ts w s1.frames.items s1 =
        subst (λ xs. Stands dispatched ts w xs s1) (sym left) still in
        subst (λ b. Puts dispatched ts w b fs t s2) base
        (subst (λ xs. Puts dispatched ts w s1.base xs t s2) left (puts now))

    pub in-place-ok : {A E : Type 0} (r : Result A E) (t : Term (PageRow D))
        → s1.frames.items ≡ fs
        → (Stands dispatched ts w s1.frames.items s1
        → OnOk r (Puts dispatched ts w s1.base s1.frames.items t s2))
        → OnOk r (Puts dispatched ts w s.base fs t s2)
    in-place-ok (Ok a) t left puts = in-place t left puts
    in-place-ok (Err e) t left puts = tt

    -- a frame that waits stands above the others
    waits-put : (f : Frame D) → inner_in f s.context ≡ s.context
        → MayWait dispatched ts w s.context f → Stands dispatched ts w (fs ++ f ∷ []) s1
    waits-put f inner may =
        let now : AreWaiting ts s.base s1.context (fs ++ f ∷ []) =
        waits-now D ts s.base s.context s1.context fs f
        (record {
          waiting = stands.waiting;
          placed = may.rests.placed;
          rests = may.rests.rests;
        })
        may.awaits may.early (context ∙ sym inner) in
        record {
          waiting = subst (λ b. AreWaiting ts b s1.context (fs ++ f ∷ [])) (sym base) now;
          frames =
              each-append (FrameIsThere dispatched w) fs (f ∷ []) stands.frames
              (may.rests.there, tt);
          context = subst (ContextIsThere w) (sym context) stands.context;
          base = subst (ContextIsThere w) (sym base) stands.base;
        }

    -- above a frame that waits
    module _ (f : Frame D) (k : Conversion) (site : Option Site) (at : f.site ≡ site)
        (may : MayConvert dispatched ts w s.context f k) where
      node-at : HasNode ts site
      node-at = subst (HasNode ts) at may.waits.rests.placed.node

      awaiting-put : s1.frames.items ≡ fs ++ f ∷ []
          → (Stands dispatched ts w s1.frames.items s1 → HasNode ts site
          → AreThere w (conversion_names k [])
          → Puts dispatched ts w s1.base s1.frames.items (converted ts site k) s2)
          → Puts dispatched ts w s.base fs (awaiting_term ts f k) s2
      awaiting-put above puts =
          let waits : Stands dispatched ts w (fs ++ f ∷ []) s1 =
          waits-put f may.inner may.waits in
          let now : Stands dispatched ts w s1.frames.items s1 =
          subst (λ xs. Stands dispatched ts w xs s1) (sym above) waits in
          let put : Puts dispatched ts w s.base (fs ++ f ∷ []) (converted ts site k) s2 =
          subst (λ b. Puts dispatched ts w b (fs ++ f ∷ []) (converted ts site k) s2) base
          (subst (λ xs. Puts dispatched ts w s1.base xs (converted ts site k) s2) above
          (puts now node-at may.named)) in
          let here : Puts dispatched ts w s.base (fs ++ f ∷ []) (converted ts f.site k) s2 =
          subst (λ x. Puts dispatched ts w s.base (fs ++ f ∷ []) (converted ts x k) s2) (sym at)
          put in
          puts-around ts D dispatched w s.base fs f (converted ts f.site k) s2 here

      pub awaiting-put-ok : {A E : Type 0} (r : Result A E) → s1.frames.items ≡ fs ++ f ∷ []
          → (Stands dispatched ts w s1.frames.items s1 → HasNode ts site
          → AreThere w (conversion_names k [])
          → OnOk r (Puts dispatched ts w s1.base s1.frames.items (converted ts site k) s2))
          → OnOk r (Puts dispatched ts w s.base fs (awaiting_term ts f k) s2)
      awaiting-put-ok (Ok a) above puts = awaiting-put above puts
      awaiting-put-ok (Err e) above puts = tt
