-- A whole text, when its node is there.
use Rattle.std.proofs.Common.{◌≡◌, ℕ, ◌+◌, ◌-◌, List, [], ◌∷◌, length, Some, None, refl, sym, ◌∙◌, ap, subst, arith}
use Rattle.std.specs.List.{slice_get}
use Rattle.std.specs.Option.{option_map}
use Rattle.std.specs.Global.{Box}
use Rattle.std.proofs.lemmas.List.{length_push}
use Rattle.js_tree.specs.declared.node.NodeId.{NodeId}
use Rattle.js_tree.specs.declared.node.Scope.{Scope}
use Rattle.js_tree.specs.declared.node.Node.{Node}
use Rattle.js_tree.specs.declared.node.Node.TheVariants as node
use Rattle.js_tree.specs.declared.script.Kept.{Kept}
use Rattle.js_tree.specs.declared.script.Pending.{Pending}
use Rattle.js_tree.specs.Trees.{Tree, Made, Nil, Cons, Part, Holds, parts, at, nodes, production_of}
use Rattle.js_tree.specs.Names.{call_scope}
use Rattle.js_tree.specs.Arena.{Arena, IsOrdered, IsWithin, Filled, node_at, with_node}
use Rattle.js_tree.specs.TreeAt.{body_at, tree_of, node_with}
use Rattle.js_tree.specs.Runs.{HasScope, RootHasScope}
use Rattle.js_tree.proofs.Computed.{body_computed, part_computed}
use Rattle.js_tree.proofs.Held.{one_tree}
use Rattle.js_grammar.specs.declared.symbol.Start.{Start}
use Rattle.js_grammar.specs.declared.symbol.Start.TheVariants as start
use Rattle.js_pieces.specs.declared.pieces.Piece.{Piece}
use Rattle.js_pieces.specs.declared.pieces.Piece.TheVariants as piece
use Rattle.js_pieces.specs.declared.pieces.WholeText.{WholeText}
use Rattle.js_pieces.specs.Pieces.{HoldsPieces}
use Rattle.js_pieces.specs.Functions.{AddsText, kept_text, text_node, text_scope, whole_of}
use Rattle.js_expr.specs.Trees.{CarriesScope, IsFunction, IsRead, IsText}
use Rattle.js_expr.proofs.Growing.{Grows, get_last, no_body_nodes, part_still, read_with_node, grows_by_node, within_held}

module _ (arena : Arena) (bodies : ℕ → Tree) (ordered : IsOrdered arena) (is : IsRead arena bodies) where
  grows : Grows arena bodies arena.kept (body_at arena)
  grows = record { names = is.names; still = λ i k e. e; same = λ k l. sym (body_computed bodies arena ordered is.filled k l) }

  -- the trees of statements are those that are computed
  tree_is : (ss : List NodeId) (t : Tree) → Holds bodies arena.kept (nodes ss) t → tree_of arena (nodes ss) ≡ t
  tree_is ss t h =
      one_tree (body_at arena) arena.kept (nodes ss) (tree_of arena (nodes ss)) t
      (part_computed (body_at arena) arena ordered (nodes ss) (within_held bodies arena.kept (length arena.pending) (nodes ss) t (no_body_nodes ss) h))
      (part_still arena bodies arena.kept (body_at arena) grows (nodes ss) t (no_body_nodes ss) h)

  node_is : (id : NodeId) (t : Tree) → Holds bodies arena.kept (at id) t → node_with arena.kept (body_at arena) id.number ≡ t
  node_is id t h =
      one_tree (body_at arena) arena.kept (at id) (node_with arena.kept (body_at arena) id.number) t
      (part_computed (body_at arena) arena ordered (at id) (within_held bodies arena.kept (length arena.pending) (at id) t tt h))
      (part_still arena bodies arena.kept (body_at arena) grows (at id) t tt h)

  all_filled : Filled arena (body_at arena)
  all_filled k l =
      let f = is.filled k l in (
        f.0,
        f.1,
        subst (λ z. Holds (body_at arena) arena.kept (at f.0) z) (sym (body_computed bodies arena ordered is.filled k l))
            (part_still arena bodies arena.kept (body_at arena) grows (at f.0) (bodies k) tt f.2),
      )

  scope_is : (f b : Node) → CarriesScope bodies arena.kept f b → HasScope arena (Some f) (Some b)
  scope_is (node.Function h k) (node.Body ss s) (t, g, e) = e ∙ ap (call_scope h.value.parameters h.value.name) (sym (tree_is ss t g))
  scope_is (node.Declaration h k) (node.Body ss s) (t, g, e) = e ∙ ap (call_scope h.value.parameters None) (sym (tree_is ss t g))
  scope_is (node.Function h k) _ c = absurd c
  scope_is (node.Declaration h k) _ c = absurd c
  scope_is _ b c = absurd c

  function_is : (p : Pending) (id : NodeId) → IsFunction arena bodies p id → HasScope arena (node_at arena p.node) (node_at arena id)
  function_is p id f =
      subst (λ z. HasScope arena z (node_at arena id)) (sym f.function_there)
      (subst (λ z. HasScope arena (Some f.function) z) (sym f.body_there) (scope_is f.function f.body f.scope))

  root_scope : (start : Start) (ss : List NodeId) (scope : Box Scope) (t : Tree) → Holds bodies arena.kept (nodes ss) t → scope.value ≡ text_scope start t → RootHasScope arena (Some (text_node start ss scope))
  root_scope start.Program ss scope t h e = e ∙ ap (text_scope start.Program) (sym (tree_is ss t h))
  root_scope start.Handler ss scope t h e = e ∙ ap (text_scope start.Handler) (sym (tree_is ss t h))

-- the production of a text's node
text_production : (start : Start) (ss : List NodeId) (scope : Box Scope) → production_of (text_node start ss scope) ≡ whole_of start
text_production start.Program ss scope = refl
text_production start.Handler ss scope = refl

text_held : (bodies : ℕ → Tree) (kept : List Kept) (start : Start) (ss : List NodeId) (scope : Box Scope) (t : Tree) → Holds bodies kept (nodes ss) t → Holds bodies kept (parts (text_node start ss scope)) (Cons t Nil)
text_held bodies kept start.Program ss scope t h = (h, tt)
text_held bodies kept start.Handler ss scope t h = (h, tt)

text_within : (n b : ℕ) (start : Start) (ss : List NodeId) (scope : Box Scope) → IsWithin n b (nodes ss) → IsWithin n b (parts (text_node start ss scope))
text_within n b start.Program ss scope h = (h, tt)
text_within n b start.Handler ss scope h = (h, tt)

module _ (old : Arena) (bodies : ℕ → Tree) (start : Start) (w : WholeText) (scope : Box Scope) (ts : Tree) (is : IsRead old bodies)
    (held : Holds bodies old.kept (nodes w.statements) ts) (scoped : scope.value ≡ text_scope start ts) (ordered : IsOrdered (with_node (kept_text start w scope) old)) where
  abbrev with_text : Arena
  with_text = with_node (kept_text start w scope) old

  read : IsRead with_text bodies
  read = read_with_node old bodies (kept_text start w scope) is
      (text_within (length old.kept) (length old.pending) start w.statements scope (within_held bodies old.kept (length old.pending) (nodes w.statements) ts (no_body_nodes w.statements) held))

  there : slice_get with_text.kept (length old.kept) ≡ Some (kept_text start w scope)
  there = get_last old.kept (kept_text start w scope)

  still : Holds bodies with_text.kept (nodes w.statements) ts
  still = part_still old bodies with_text.kept bodies (grows_by_node old bodies (kept_text start w scope) is) (nodes w.statements) ts (no_body_nodes w.statements) held

  last : length with_text.kept - 1 ≡ length old.kept
  last = (let more : length with_text.kept ≡ length old.kept + 1 = length_push old.kept (kept_text start w scope) in omega arith)

  root_held : Holds bodies with_text.kept (Part.At (length old.kept)) (Made (whole_of start) w.from w.to (Cons ts Nil))
  root_held = (kept_text start w scope, there, text_production start w.statements scope, refl, refl, text_held bodies with_text.kept start w.statements scope ts still)

  text_is : IsText with_text (Made (whole_of start) w.from w.to (Cons ts Nil))
  text_is = record {
    tree = ap (node_with with_text.kept (body_at with_text)) last ∙ node_is with_text bodies ordered read (record { number = length old.kept }) (Made (whole_of start) w.from w.to (Cons ts Nil)) root_held;
    filled = all_filled with_text bodies ordered read;
    root =
        subst (λ z. RootHasScope with_text (option_map (λ (k : Kept). k.node) (slice_get with_text.kept z))) (sym last)
        (subst (λ z. RootHasScope with_text (option_map (λ (k : Kept). k.node) z)) (sym there) (root_scope with_text bodies ordered read start w.statements scope ts still scoped));
    functions = λ k p id a b. function_is with_text bodies ordered read p id (read.functions k p id a b);
  }

-- the only piece is a whole text
only_text : (bodies : ℕ → Tree) (kept : List Kept) (w : WholeText) (rest : List Piece) (t : Tree) → HoldsPieces bodies kept (piece.Whole w ∷ rest) (t ∷ []) →
    (ts : Tree) × (t ≡ Made w.production w.from w.to (Cons ts Nil)) × Holds bodies kept (nodes w.statements) ts
only_text bodies kept w rest t (h, g) = h

pub finished : (old new : Arena) (bodies : ℕ → Tree) (ps rest : List Piece) (t : Tree) → IsRead old bodies → HoldsPieces bodies old.kept ps (t ∷ []) → AddsText old ps new rest → IsOrdered new → IsText new t
finished old new bodies ps rest t is holds (start, w, e, made, added) ordered =
    let (ts, tree, held) = only_text bodies old.kept w rest t (subst (λ z. HoldsPieces bodies old.kept z (t ∷ [])) e holds) in
    let is_new : IsOrdered (with_node (kept_text start w added.scope) old) = subst IsOrdered added.added ordered in
    let text : IsText (with_node (kept_text start w added.scope) old) (Made (whole_of start) w.from w.to (Cons ts Nil)) =
    text_is old bodies start w added.scope ts is held (added.scoped bodies ts held) is_new in
    subst (λ z. IsText z t) (sym added.added) (subst (λ z. IsText (with_node (kept_text start w added.scope) old) z) (sym (tree ∙ ap (λ q. Made q w.from w.to (Cons ts Nil)) made)) text)
