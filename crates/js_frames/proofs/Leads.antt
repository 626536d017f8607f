-- The labels directly around an operand.
use Rattle.std.proofs.Common.{◌≡◌, ◌≢◌, ℕ, zero, suc, ◌<◌, ◌≤◌, ◌==◌}
use Rattle.std.proofs.Common.{Bool, true, false, List, [], ◌∷◌, Option, Some, None, slice_get}
use Rattle.std.proofs.Common.{refl, ap, sym, subst, ◌∙◌, arith, eq-eqb, ⊎_elim}
use Rattle.std.specs.Prelude.{if◌then◌else◌, unwrap_or}
use Rattle.std.specs.Option.{option_map}
use Rattle.std.proofs.lemmas.Bool.{cases_Bool, eqb-true}
use Rattle.js_value.specs.declared.value.Value.TheVariants.{Undefined}
use Rattle.js_heap.specs.Closed.{Each}
use Rattle.js_heap.specs.declared.class.ScopeId.{ScopeId}
use Rattle.js_tree.specs.Arena.{Arena, IsOrdered, node_at}
use Rattle.js_tree.specs.declared.node.Declarator.{Declarator}
use Rattle.js_tree.specs.declared.node.Node.{Node}
use Rattle.js_tree.specs.declared.node.Node.TheVariants as node
use Rattle.js_tree.specs.declared.node.NodeId.{NodeId}
use Rattle.js_term.specs.Operands.{Labels}
use Rattle.js_term.specs.declared.context.Context.{Context}
use Rattle.js_term.specs.declared.operands.Operand.{Operand}
use Rattle.js_term.specs.declared.operands.Operand.TheVariants as operand
use Rattle.js_stmt.specs.CodeRows.{labels_around, labels_up_to, var_as, with_label}
use Rattle.js_stmt.specs.Make.{labels_inside}
use Rattle.js_stmt.specs.NodeRows as nodes
use Rattle.js_stmt.specs.NodeRows.{kept_names_row, loop_row, node_row, row_by}
use Rattle.js_stmt.specs.Rows.{Loop, StmtRow}
use Rattle.js_stmt.specs.Syntax.{name_of_target}
use Rattle.js_stmt.specs.declared.kept.StmtKept.{StmtKept}
use Rattle.js_stmt.specs.declared.kept.StmtKept.TheVariants as kept
use Rattle.js_stmt.specs.declared.phase.StmtPhase.{StmtPhase}
use Rattle.js_stmt.specs.declared.phase.StmtPhase.TheVariants as phase
use Rattle.js_stmt.proofs.LabelsFound.{inner_below}
use Rattle.js_tree.specs.TreeAt.{tree_at}
use Rattle.std.specs.Prelude.{drop}
use Rattle.js_rows.specs.Row.{placed, text_of}
use Rattle.js_rows.specs.Syntax.{labels_of}
use Rattle.js_frames.specs.Arenas.{AreOrdered, Arenas, arena_of}
use Rattle.js_frames.specs.Rows.{frame_row, no_context, place_at, work_row}
use Rattle.js_frames.specs.Soundness.{AwaitsBody, IsLabelled, IsPlaced, IsThis, LeadsTo}
use Rattle.js_frames.specs.Soundness.{WorkIsLabelled}
use Rattle.js_frames.specs.Soundness.LeadsTo.{Here, Inwards}
use Rattle.js_frames.specs.declared.frame.Frame.{Frame}
use Rattle.js_frames.specs.declared.frame.Site.{Site}
use Rattle.js_frames.specs.declared.frame.StmtState.{StmtState}
use Rattle.js_frames.specs.declared.frame.Work.{Work}
use Rattle.js_frames.specs.declared.frame.Work.TheVariants as work
use Rattle.js_frames.specs.inner.Advances.{is_labelled, outermost_by, outermost_of}
use Rattle.js_frames.proofs.Labels.{labels-begun}

unequal : (x y : ℕ) → x ≢ y → (x == y) ≡ false
unequal x y apart = ⊎_elim (λ hit. absurd (apart (eqb-true x y hit))) (λ miss. miss) (cases_Bool
    (x == y))

module _ (a : Arena) (is : IsOrdered a) where
  abbrev up : NodeId → ℕ → NodeId → Labels → Labels
  up s k n ls = labels_up_to a s k n ls

  inner : (n : NodeId) (l : List ℕ) (t : NodeId) → node_at a n ≡ Some (node.Labelled l t)
      → t.number < n.number
  inner n l t e = inner_below a n is n l t (slice_get a.kept n.number) refl e

  leads-below : (o n : NodeId) → LeadsTo a o n → n.number ≤ o.number
  leads-below o n (Here m) = omega arith
  leads-below o n (Inwards l p s m e h) = omega (arith, inner p l s e, leads-below s m h)

  pub leads-on : (o n b : NodeId) (l : List ℕ) → LeadsTo a o n → node_at a n ≡ Some
      (node.Labelled l b) → LeadsTo a o b
  leads-on o n b l (Here m) e = Inwards l m b b e (Here b)
  leads-on o n b l (Inwards k p s m g h) e = Inwards k p s b g (leads-on s m b l h e)

  -- one level of the walk
  walks : (s : NodeId) (k : ℕ) (n : NodeId) (l : List ℕ) (t : NodeId) (ls : Labels)
      → n.number ≢ s.number
      → node_at a n ≡ Some (node.Labelled l t) → up s (suc k) n ls ≡ up s k t (l ∷ ls)
  unfolding labels_up_to
  walks s k n l t ls apart e =
      ap (λ b. if b then ls else with_label (labels_up_to a s k) (node_at a n) ls)
      (unequal n.number s.number apart)
      ∙ ap (λ o. with_label (labels_up_to a s k) o ls) e

  arrives : (s : NodeId) (k : ℕ) (ls : Labels) → up s (suc k) s ls ≡ ls
  unfolding labels_up_to
  arrives s k ls =
      ap (λ b. if b then ls else with_label (labels_up_to a s k) (node_at a s) ls)
      (eq-eqb s.number s.number refl)

  arrives-at : (s : NodeId) (k : ℕ) (ls : Labels) → 0 < k → up s k s ls ≡ ls
  arrives-at s zero ls p = absurd (omega (arith, p))
  arrives-at s (suc k) ls p = arrives s k ls

  inwards : (k : ℕ) (o n b : NodeId) (l : List ℕ) (ls : Labels) → LeadsTo a o n
      → node_at a n ≡ Some (node.Labelled l b) → o.number < k
      → up b k o ls ≡ l ∷ up n k o ls
  inwards zero o n b l ls h e p = absurd (omega (arith, p))
  inwards (suc k) o n b l ls (Here m) e p =
      let under = inner m l b e in
      let apart : m.number ≢ b.number = omega (arith, under) in
      walks b k m l b ls apart e
      ∙ (arrives-at b k (l ∷ ls) (omega (arith, under, p))
      ∙ ap (λ ms. l ∷ ms) (sym (arrives m k ls)))
  inwards (suc k) o n b l ls (Inwards j q s m g h) e p =
      let under = inner m l b e in
      let more = inner q j s g in
      let low = leads-below s m h in
      let apart : q.number ≢ b.number = omega (arith, under, more, low) in
      let other : q.number ≢ m.number = omega (arith, more, low) in
      walks b k q j s ls apart g
      ∙ (inwards k s m b l (j ∷ ls) h e (omega (arith, more, p))
      ∙ ap (λ ms. l ∷ ms) (sym (walks m k q j s ls other g)))

  abbrev around : NodeId → NodeId → Labels
  around o n = labels_around a (record { outermost = o; statement = n })

  pub labels-step : (o n b : NodeId) (l : List ℕ) → LeadsTo a o n → node_at a n ≡ Some
      (node.Labelled l b) → around o b ≡ l ∷ around o n
  labels-step o n b l h e = inwards (suc o.number) o n b l [] h e (omega arith)

  pub labels-self : (n : NodeId) → around n n ≡ []
  labels-self n = arrives n n.number []

-- the rows of other phases have no labels inside
module _ (a : Arena) (c : Context) (ls : Labels) where
  var-labels : (ds : List Declarator) → labels_inside (var_as a ds) ≡ []
  var-labels [] = refl
  var-labels (d ∷ ds) = refl

  loop-labels : (p : StmtPhase) (o : Option Loop) → labels_inside (loop_row p o) ≡ []
  loop-labels phase.LoopStart (Some l) = refl
  loop-labels phase.LoopStart None = refl
  loop-labels phase.LoopTest (Some l) = refl
  loop-labels phase.LoopTest None = refl
  loop-labels phase.LoopBody (Some l) = refl
  loop-labels phase.LoopBody None = refl
  loop-labels phase.LoopUpdate (Some l) = refl
  loop-labels phase.LoopUpdate None = refl
  loop-labels p o = refl

  names-labels : (i : ℕ) (x : Option (List ℕ)) (s : NodeId) (k : StmtKept) → labels_inside
      (kept_names_row a ls i x s k) ≡ []
  names-labels i (Some x) s (kept.Names v ks) = refl
  names-labels i None s (kept.Names v ks) = refl
  names-labels i x s k = refl

  declared-labels : (i : ℕ) (n : Node) → labels_inside (nodes.declared_row a i n) ≡ []
  declared-labels i (node.Var ds) = var-labels (drop i ds)
  declared-labels i n = refl

  row-names : (i : ℕ) (n : Node) (k : StmtKept) → labels_inside
      (nodes.names_row a ls i n k) ≡ []
  row-names i (node.ForIn x e s) k = names-labels i (name_of_target (tree_at a x)) s k
  row-names i n k = refl

  case-labels : (i : ℕ) (n : Node) → labels_inside (nodes.case_row a ls i n) ≡ []
  case-labels i (node.Switch e cs) = refl
  case-labels i n = refl

  clauses-labels : (n : Node) → labels_inside (nodes.clauses_row ls n) ≡ []
  clauses-labels (node.Switch e cs) = refl
  clauses-labels n = refl

  catch-labels : (s : ScopeId) (n : Node) → labels_inside (nodes.catch_row a s n) ≡ []
  catch-labels s (node.Try g) = refl
  catch-labels s n = refl

  begun-labels : (n : Node) → is_labelled (Some n) phase.Begun ≡ false → labels_inside
      (nodes.begun_row a ls n) ≡ []
  begun-labels (node.Labelled l s) e = cc
  begun-labels n e = labels-begun a ls n

  node-labels : (n : Node) (p : StmtPhase) (k : StmtKept) → is_labelled (Some n) p ≡ false
      → labels_inside (node_row a c ls n p k) ≡ []
  node-labels n phase.Begun k e = begun-labels n e
  node-labels n (phase.Declared i) k e = declared-labels i n
  node-labels n phase.LoopStart k e = loop-labels phase.LoopStart (nodes.loop_at a ls n)
  node-labels n phase.LoopTest k e = loop-labels phase.LoopTest (nodes.loop_at a ls n)
  node-labels n phase.LoopBody k e = loop-labels phase.LoopBody (nodes.loop_at a ls n)
  node-labels n phase.LoopUpdate k e = loop-labels phase.LoopUpdate (nodes.loop_at a ls n)
  node-labels n (phase.Names i) k e = row-names i n k
  node-labels n (phase.Case i) k e = case-labels i n
  node-labels n phase.Clauses k e = clauses-labels n
  node-labels n (phase.Catch s) k e = catch-labels s n
  node-labels n phase.Finally k e = refl
  node-labels n phase.Body k e = refl

  abbrev row : Option Node → StmtPhase → StmtKept → StmtRow
  row o p k = row_by (λ n. node_row a c ls n p k) o

  pub unlabelled : (o : Option Node) (p : StmtPhase) (k : StmtKept) → is_labelled o p ≡ false
      → labels_inside (row o p k) ≡ []
  unlabelled (Some n) p k e = node-labels n p k e
  unlabelled None p k e = refl

first-this : (b id : NodeId) (xs : List Operand) → Each (IsThis b) xs → slice_get xs 0 ≡ Some
    (operand.Node id) → id ≡ b
first-this b id [] h e = cc
first-this b id (operand.Value v ∷ xs) h e = cc
first-this b id (operand.Node m ∷ xs) h e =
    let same : id ≡ m = cc in
    same ∙ h.0

-- a labelled statement that begins, and its statement
module _ (a : Arena) (is : IsOrdered a) (c : Context) (o n id : NodeId) (k : StmtKept)
    (xs : List Operand) (h : LeadsTo a o n)
    (first : slice_get xs 0 ≡ Some (operand.Node id)) where
  abbrev ls : Labels
  ls = labels_around a (record { outermost = o; statement = n })

  labelled-labels : (m : Option Node) (p : StmtPhase) → node_at a n ≡ m
      → is_labelled m p ≡ true → AwaitsBody m p xs
      → labels_around a (record { outermost = o; statement = id }) ≡ labels_inside (row_by
      (λ x. node_row a c ls x p k) m)
  labelled-labels (Some (node.Labelled l b)) phase.Begun e t w =
      let same : id ≡ b = first-this b id xs w first in
      ap (λ x. labels_around a (record { outermost = o; statement = x })) same
      ∙ labels-step a is o n b l h e
  labelled-labels m p e t w = cc

  labelled-leads : (m : Option Node) (p : StmtPhase) → node_at a n ≡ m
      → is_labelled m p ≡ true → AwaitsBody m p xs → LeadsTo a o id
  labelled-leads (Some (node.Labelled l b)) phase.Begun e t w =
      subst (LeadsTo a o) (sym (first-this b id xs w first)) (leads-on a is o n b l h e)
  labelled-leads m p e t w = cc

module _ (D : Type 0) (ts : Arenas) (ordered : AreOrdered ts) where
  abbrev arena : Option Site → Work D → Arena
  arena s w = arena_of ts (text_of (place_at ts s w))

  labels-either : (s : Site) (c : Context) (state : StmtState) (k : StmtKept) (xs : List Operand)
      (id : NodeId)
      → IsLabelled (arena_of ts s.text) s.node state xs → slice_get xs 0 ≡ Some
      (operand.Node id)
      → (b : Bool) → is_labelled (node_at (arena_of ts s.text) s.node) state.phase ≡ b
      → labels_around (arena_of ts s.text) (record {
        outermost = if b then state.outermost else
            id;
        statement = id;
      })
      ≡ labels_of (placed (place_at ts {D = D} (Some s) (work.Statement state k))
      (work_row ts {D = D} c (Some s) (work.Statement state k)))
  labels-either s c state k xs id h first true e =
      labelled-labels (arena_of ts s.text) (ordered s.text) c state.outermost s.node id k xs h.leads
      first
      (node_at (arena_of ts s.text) s.node) state.phase refl e h.body
  labels-either s c state k xs id h first false e =
      labels-self (arena_of ts s.text) (ordered s.text) id
      ∙ sym (unlabelled (arena_of ts s.text) c (labels_around (arena_of ts s.text)
      (record { outermost = state.outermost; statement = s.node }))
      (node_at (arena_of ts s.text) s.node) state.phase k e)

  labels-by : (s : Option Site) (w : Work D) (c : Context) (xs : List Operand) (id : NodeId)
      → WorkIsLabelled ts s w xs
      → slice_get xs 0 ≡ Some (operand.Node id)
      → labels_around (arena s w) (record { outermost = outermost_by ts s w id; statement = id })
      ≡ labels_of (placed (place_at ts s w) (work_row ts c s w))
  labels-by (Some s) (work.Statement state k) c xs id h first =
      labels-either s c state k xs id h first (is_labelled (node_at
      (arena_of ts s.text) s.node) state.phase) refl
  labels-by None (work.Statement state k) c xs id h first =
      labels-self (arena None (work.Statement state k)) (ordered 0) id
  labels-by s (work.Expression f) c xs id h first =
      labels-self (arena s (work.Expression f)) (ordered (text_of (place_at ts {D = D} s (work.Expression f)))) id
  labels-by s (work.Native q) c xs id h first =
      labels-self (arena s (work.Native q)) (ordered (text_of (place_at ts {D = D} s (work.Native q)))) id
  labels-by s (work.Begin d) c xs id h first =
      labels-self (arena s (work.Begin d)) (ordered (text_of (place_at ts {D = D} s (work.Begin d)))) id
  labels-by s (work.Fresh e) c xs id h first =
      labels-self (arena s (work.Fresh e)) (ordered (text_of (place_at ts {D = D} s (work.Fresh e)))) id
  labels-by s (work.Dispatch d) c xs id h first =
      labels-self (arena s (work.Dispatch d)) (ordered (text_of (place_at ts {D = D} s (work.Dispatch d)))) id

  leads-either : (s : Site) (state : StmtState) (xs : List Operand) (id : NodeId)
      → IsLabelled (arena_of ts s.text) s.node state xs → slice_get xs 0 ≡ Some
      (operand.Node id)
      → (b : Bool) → is_labelled (node_at (arena_of ts s.text) s.node) state.phase ≡ b
      → LeadsTo (arena_of ts s.text) (if b then state.outermost else id) id
  leads-either s state xs id h first true e =
      labelled-leads (arena_of ts s.text) (ordered s.text)
      (record { text = 0; scope = None; this = Undefined }) state.outermost s.node id
      kept.Nothing xs h.leads first (node_at (arena_of ts s.text) s.node) state.phase refl e h.body
  leads-either s state xs id h first false e = Here id

  leads-by : (s : Option Site) (w : Work D) (xs : List Operand) (id : NodeId)
      → WorkIsLabelled ts s w xs
      → slice_get xs 0 ≡ Some (operand.Node id) → LeadsTo (arena s w)
      (outermost_by ts s w id) id
  leads-by (Some s) (work.Statement state k) xs id h first =
      leads-either s state xs id h first (is_labelled (node_at
      (arena_of ts s.text) s.node) state.phase) refl
  leads-by None (work.Statement state k) xs id h first = Here id
  leads-by s (work.Expression f) xs id h first = Here id
  leads-by s (work.Native q) xs id h first = Here id
  leads-by s (work.Begin d) xs id h first = Here id
  leads-by s (work.Fresh e) xs id h first = Here id
  leads-by s (work.Dispatch d) xs id h first = Here id

  -- the operand that comes next has the labels of its frame's row
  pub operand-labels : (f : Frame D) (id : NodeId) → IsPlaced ts f
      → slice_get f.operands.todo 0 ≡ Some (operand.Node id)
      → labels_around (arena f.site f.work)
      (record { outermost = outermost_of ts f id; statement = id })
      ≡ labels_of (frame_row ts f)
  operand-labels f id h first =
      labels-by f.site f.work (unwrap_or (option_map (λ b. b.value.inner) f.contexts) no_context)
      f.operands.todo id h.labels first

  pub operand-leads : (f : Frame D) (id : NodeId) → IsPlaced ts f
      → slice_get f.operands.todo 0 ≡ Some (operand.Node id)
      → LeadsTo (arena f.site f.work) (outermost_of ts f id) id
  operand-leads f id h first = leads-by f.site f.work f.operands.todo id h.labels first
