-- The frames of a conversion, and the term that they stand for.
use Rattle.std.proofs.Common.{◌≡◌, true, false, List, [], ◌∷◌, ◌++◌, Option, Some, None, map}
use Rattle.std.proofs.Common.{Result, Ok, Err, OnOk, lit<, refl, ap, sym, subst, ◌∙◌}
use Rattle.std.specs.Prelude.{unwrap_or}
use Rattle.std.specs.Option.{option_map}
use Rattle.js_value.specs.declared.value.Value.{Value}
use Rattle.js_value.specs.declared.value.Value.TheVariants.{Undefined}
use Rattle.js_heap.specs.World.{World}
use Rattle.js_host.specs.There.{AreThere}
use Rattle.js_term.specs.Frames as frames
use Rattle.js_term.specs.Frames.{passes}
use Rattle.js_term.specs.Place.{Place}
use Rattle.js_term.specs.Term.{Term, after}
use Rattle.js_term.specs.Term.Term.{Node, Val}
use Rattle.js_term.specs.Term.Terms.{Cons, Nil}
use Rattle.js_term.specs.declared.context.Context.{Context}
use Rattle.js_term.specs.declared.operands.Operand.{Operand}
use Rattle.js_term.specs.declared.operands.Operand.TheVariants as operand
use Rattle.js_term.proofs.Readings.{reading-push}
use Rattle.js_tree.specs.Arena.{node_at}
use Rattle.js_operands.specs.ArenaRows.{row_of}
use Rattle.js_operands.specs.ExprMoves.{later_row, left_methods}
use Rattle.js_operands.specs.Made.{Conversion}
use Rattle.js_operands.specs.Rows.{ExprRow}
use Rattle.js_operands.specs.declared.row.Method.{Method}
use Rattle.js_operands.specs.declared.row.Phase.{Phase}
use Rattle.js_operands.specs.declared.row.Phase.TheVariants as phase
use Rattle.js_rows.specs.Hosted.{PageRow}
use Rattle.js_rows.specs.Row.{placed}
use Rattle.js_rows.specs.Row.Row.{Expression}
use Rattle.js_rows.specs.Syntax.{has_no_step}
use Rattle.js_frames.specs.Arenas.{Arenas, arena_of}
use Rattle.js_frames.specs.Reading.{syntax, waits}
use Rattle.js_frames.specs.Rows.{expression_at, frame_row, host_row, place_at}
use Rattle.js_frames.specs.Soundness.{HasNode, WorkIsLabelled, contexts_of, moved_rows}
use Rattle.js_frames.specs.declared.frame.Frame.{Frame}
use Rattle.js_frames.specs.declared.frame.Site.{Site}
use Rattle.js_frames.specs.declared.frame.Work.TheVariants as work
use Rattle.js_frames.specs.declared.stack.Stack.{Stack}
use Rattle.js_frames.proofs.TopReadings.{pushed-reading}
use Rattle.js_moves.specs.inner.Places.{MayRest, MayWait, Puts, frame_term}
use Rattle.js_moves.specs.inner.Terms.{conversion_term, expression_place, over}

pub later-converting : (r : ExprRow) (m : Option Method)
    → later_row r (phase.Converting m) ≡ ExprRow.Converting (left_methods m)
later-converting (ExprRow.ReviseName o x e) m = refl
later-converting (ExprRow.ReviseMember o k e) m = refl
later-converting (ExprRow.ReviseIndex o e) m = refl
later-converting (ExprRow.ComputeName o x) m = refl
later-converting (ExprRow.ComputeMember o k) m = refl
later-converting (ExprRow.ComputeIndex o) m = refl
later-converting (ExprRow.UpdateName u s x) m = refl
later-converting (ExprRow.UpdateMember u s k) m = refl
later-converting (ExprRow.UpdateIndex u s) m = refl
later-converting r m = refl

pub later-call : (r : ExprRow) → later_row r phase.CallOn ≡ ExprRow.CallOn
later-call (ExprRow.ReviseName o x e) = refl
later-call (ExprRow.ReviseMember o k e) = refl
later-call (ExprRow.ReviseIndex o e) = refl
later-call (ExprRow.ComputeName o x) = refl
later-call (ExprRow.ComputeMember o k) = refl
later-call (ExprRow.ComputeIndex o) = refl
later-call (ExprRow.UpdateName u s x) = refl
later-call (ExprRow.UpdateMember u s k) = refl
later-call (ExprRow.UpdateIndex u s) = refl
later-call r = refl

later-of : (f : Phase) (is : ExprRow) (o : Option ExprRow) → ((r : ExprRow) → later_row r f ≡ is)
    → host_row f ≡ is → unwrap_or (option_map (λ r. later_row r f) o) (host_row f) ≡ is
later-of f is (Some r) each host = each r
later-of f is None each host = host

module _ (ts : Arenas) where
  expression-is : (s : Option Site) (f : Phase) (is : ExprRow)
      → ((r : ExprRow) → later_row r f ≡ is) → host_row f ≡ is → expression_at ts s f ≡ is
  expression-is (Some s) f is each host =
      later-of f is (row_of (arena_of ts s.text) (node_at (arena_of ts s.text) s.node)) each host
  expression-is None f is each host = host

  pub converting-at : (s : Option Site) (m : Option Method)
      → expression_at ts s (phase.Converting m) ≡ ExprRow.Converting (left_methods m)
  converting-at s m =
      expression-is s (phase.Converting m) (ExprRow.Converting (left_methods m))
      (λ r. later-converting r m) refl

  pub call-at : (s : Option Site) → expression_at ts s phase.CallOn ≡ ExprRow.CallOn
  call-at s = expression-is s phase.CallOn ExprRow.CallOn later-call refl

  module _ (D : Type 0) where
    -- an expression's place doesn't change with its phase
    pub place-of : (s : Option Site) (f : Phase)
        → place_at ts {D = D} s (work.Expression f) ≡ expression_place ts s
    place-of (Some s) f = refl
    place-of None f = refl

    pub no-labels : (s : Option Site) (f : Phase) (xs : List Operand)
        → WorkIsLabelled {D = D} ts s (work.Expression f) xs
    no-labels (Some s) f xs = tt
    no-labels None f xs = tt

    abbrev page_row : Place → ExprRow → PageRow D
    page_row p r = placed p (Expression r)

    pub row-is : (s : Option Site) (f : Phase) (is : ExprRow) → expression_at ts s f ≡ is
        → page_row (place_at ts {D = D} s (work.Expression f)) (expression_at ts s f)
        ≡ page_row (expression_place ts s) is
    row-is s f is e =
        ap (λ p. page_row p (expression_at ts s f)) (place-of s f)
        ∙ ap (page_row (expression_place ts s)) e

    -- a frame that waits is around what is put above it
    pub puts-around : (dispatched : D → List Value) (w : World) (base : Context)
        (fs : List (Frame D)) (f : Frame D) (t : Term (PageRow D)) (s : Stack D)
        → Puts dispatched ts w base (fs ++ f ∷ []) t s
        → Puts dispatched ts w base fs
        (frames.around has_no_step (syntax ts).term (waits ts f) t) s
    puts-around dispatched w base fs f t s p = record {
      sound = p.sound;
      same =
          p.same
          ∙ (ap (λ ws. frames.reading has_no_step (syntax ts).term ws t)
          (pushed-reading D ts fs f)
          ∙ reading-push has_no_step (syntax ts).term (map (waits ts) fs) (waits ts f) t);
      base = p.base;
      there = p.there;
    }

    module _ (site : Option Site) (object method : Value) (m : Option Method) where
      -- the node that takes the answer, and the call
      abbrev pub taker : Frame D
      taker = record {
        site = site;
        work = work.Expression (phase.Converting m);
        operands = record { done = object ∷ []; todo = operand.Value Undefined ∷ [] };
        contexts = None;
      }

      abbrev pub method_call : Frame D
      method_call = record {
        site = site;
        work = work.Expression phase.CallOn;
        operands = record { done = method ∷ object ∷ []; todo = [] };
        contexts = None;
      }

      abbrev taken : ExprRow
      taken = ExprRow.Converting (left_methods m)

      taker-row : frame_row ts taker ≡ page_row (expression_place ts site) taken
      taker-row = row-is site (phase.Converting m) taken (converting-at site m)

      call-row : frame_row ts method_call ≡ page_row (expression_place ts site) ExprRow.CallOn
      call-row = row-is site phase.CallOn ExprRow.CallOn (call-at site)

      module _ (dispatched : D → List Value) (w : World) (node : HasNode ts site)
          (named : AreThere w (object ∷ method ∷ [])) (c : Context) where
        taker-waits : MayWait dispatched ts w c taker
        taker-waits = record {
          rests = record {
            placed = record {
              node = node;
              labels = no-labels site (phase.Converting m) (operand.Value Undefined ∷ []);
              target = tt;
            };
            rests = record {
              passes = subst (λ (r : PageRow D). passes moved_rows.is_early r [] (object ∷ []) ≡ true)
                  (sym taker-row) refl;
              context = refl;
            };
            there = record { work = tt; operands = (named.0, (tt, tt)); contexts = tt };
          };
          awaits = lit< tt;
          early = subst (λ (r : PageRow D). moved_rows.is_early r (object ∷ []) ≡ false)
              (sym taker-row) refl;
        }

        call-rests : MayRest dispatched ts w c method_call
        call-rests = record {
          placed = record {
            node = node;
            labels = no-labels site phase.CallOn [];
            target = tt;
          };
          rests = record {
            passes = subst (λ (r : PageRow D). passes moved_rows.is_early r []
                (method ∷ object ∷ []) ≡ true) (sym call-row) refl;
            context = refl;
          };
          there = record {
            work = tt;
            operands = (named.1.0, (named.0, tt));
            contexts = tt;
          };
        }

        -- of equal frames
        pub taker-may : (f : Frame D) → f ≡ taker → MayWait dispatched ts w c f
        taker-may f e = subst (MayWait dispatched ts w c) (sym e) taker-waits

        pub call-may : (f : Frame D) → f ≡ method_call → MayRest dispatched ts w c f
        call-may f e = subst (MayRest dispatched ts w c) (sym e) call-rests

      pub taker-none : (f : Frame D) → f ≡ taker → contexts_of f ≡ None
      taker-none f e = ap (λ x. contexts_of x) e

      call-term : frame_term ts method_call
          ≡ over (expression_place ts site) ExprRow.CallOn (after (method ∷ object ∷ []) Nil)
      call-term = ap (λ r. Node r (after (method ∷ object ∷ []) Nil)) call-row

      around-term : (t : Term (PageRow D))
          → frames.around has_no_step (syntax ts).term (waits ts taker) t
          ≡ over (expression_place ts site) taken (Cons (Val object) (Cons t Nil))
      around-term t = ap (λ r. Node r (Cons (Val object) (Cons t Nil))) taker-row

      pub method-term : frames.around has_no_step (syntax ts).term (waits ts taker)
          (frame_term ts method_call)
          ≡ conversion_term (expression_place ts site)
          (Conversion.Tries object method (left_methods m))
      method-term =
          ap (λ t. frames.around has_no_step (syntax ts).term (waits ts taker) t) call-term
          ∙ around-term
          (over (expression_place ts site) ExprRow.CallOn (after (method ∷ object ∷ []) Nil))

      pub method-put : (dispatched : D → List Value) (w : World) (base : Context)
          (fs : List (Frame D)) (f g : Frame D) (s : Stack D) → f ≡ taker → g ≡ method_call
          → Puts dispatched ts w base (fs ++ f ∷ []) (frame_term ts g) s
          → Puts dispatched ts w base fs (conversion_term (expression_place ts site)
          (Conversion.Tries object method (left_methods m))) s
      method-put dispatched w base fs f g s is then puts =
          let around = puts-around dispatched w base fs f (frame_term ts g) s puts in
          let same : frames.around has_no_step (syntax ts).term (waits ts f) (frame_term ts g)
          ≡ conversion_term (expression_place ts site)
          (Conversion.Tries object method (left_methods m)) =
          ap (λ x. frames.around has_no_step (syntax ts).term (waits ts x) (frame_term ts g)) is
          ∙ ap (λ x. frames.around has_no_step (syntax ts).term (waits ts taker) (frame_term ts x))
          then ∙ method-term in
          subst (λ t. Puts dispatched ts w base fs t s) same around

      pub method-put-ok : {A E : Type 0} (r : Result A E) (dispatched : D → List Value) (w : World)
          (base b : Context) (fs xs : List (Frame D)) (f g : Frame D) (s : Stack D) → f ≡ taker
          → g ≡ method_call → xs ≡ fs ++ f ∷ [] → b ≡ base
          → OnOk r (Puts dispatched ts w b xs (frame_term ts g) s)
          → OnOk r (Puts dispatched ts w base fs (conversion_term (expression_place ts site)
          (Conversion.Tries object method (left_methods m))) s)
      method-put-ok (Ok a) dispatched w base b fs xs f g s is then frames same puts =
          method-put dispatched w base fs f g s is then
          (subst (λ x. Puts dispatched ts w x (fs ++ f ∷ []) (frame_term ts g) s) same
          (subst (λ ys. Puts dispatched ts w b ys (frame_term ts g) s) frames puts))
      method-put-ok (Err e) dispatched w base b fs xs f g s is then frames same puts = tt
