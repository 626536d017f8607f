-- Trees stay where the arena grows.
use Rattle.std.proofs.Common.{◌≡◌, inl, inr, ℕ, zero, suc, ◌<◌, List, [], ◌∷◌, ◌++◌, length, Option, Some, None, refl, sym, ◌∙◌, ap, subst, arith}
use Rattle.std.specs.List.{slice_get}
use Rattle.std.specs.Option.{option_map}
use Rattle.std.proofs.lemmas.Option.{none-some, slice_get_within}
use Rattle.js_tree.specs.declared.node.NodeId.{NodeId}
use Rattle.js_tree.specs.declared.node.Node.{Node}
use Rattle.js_tree.specs.declared.node.Node.TheVariants as node
use Rattle.js_tree.specs.declared.node.Declarator.{Declarator}
use Rattle.js_tree.specs.declared.node.Case.{Case}
use Rattle.js_tree.specs.declared.node.Catch.{Catch}
use Rattle.js_tree.specs.declared.node.Entry.{Entry}
use Rattle.js_tree.specs.declared.script.Kept.{Kept}
use Rattle.js_tree.specs.declared.script.Pending.{Pending}
use Rattle.js_tree.specs.Trees.{Tree, Made, Word, Missing, Nil, Cons, Part, Holds, parts, production_of, at, perhaps, named, nodes, elements, entries, words, declarators, cases, caught, at_last, two}
use Rattle.js_tree.specs.Arena.{Arena, IsWithin, node_at, with_node}
use Rattle.js_tree.proofs.Arenas.{get_pushed, within_more}
use Rattle.js_pieces.specs.declared.pieces.Piece.{Piece}
use Rattle.js_pieces.specs.declared.pieces.Piece.TheVariants as piece
use Rattle.js_pieces.specs.Pieces.{HoldsPiece, HoldsPieces}
use Rattle.js_pieces.specs.Nodes.{IsPlain}
use Rattle.js_expr.specs.Trees.{CarriesScope, IsFunction, IsRead}

-- Parts that name no body -----------------------------------------------------------------------

abbrev pub NoBody : Part → Type 0
NoBody (Part.Body k) = ⊥
NoBody (Part.Cons p q) = NoBody p × NoBody q
NoBody _ = Unit {0}

no_body_perhaps : (id : Option NodeId) → NoBody (perhaps id)
no_body_perhaps None = tt
no_body_perhaps (Some id) = tt

no_body_named : (name : Option (List ℕ)) → NoBody (named name)
no_body_named None = tt
no_body_named (Some name) = tt

pub no_body_nodes : (ids : List NodeId) → NoBody (nodes ids)
no_body_nodes [] = tt
no_body_nodes (id ∷ ids) = (tt, no_body_nodes ids)

no_body_elements : (ids : List (Option NodeId)) → NoBody (elements ids)
no_body_elements [] = tt
no_body_elements (id ∷ ids) = (no_body_perhaps id, no_body_elements ids)

no_body_words : (names : List (List ℕ)) → NoBody (words names)
no_body_words [] = tt
no_body_words (name ∷ names) = (tt, no_body_words names)

no_body_entries : (es : List Entry) → NoBody (entries es)
no_body_entries [] = tt
no_body_entries (e ∷ es) = ((tt, (tt, tt)), no_body_entries es)

no_body_declarator : (d : Declarator) → NoBody (two (Part.Word d.name) (perhaps d.value))
no_body_declarator d = (tt, (no_body_perhaps d.value, tt))

no_body_declarators : (ds : List Declarator) → NoBody (declarators ds)
no_body_declarators [] = tt
no_body_declarators (d ∷ ds) = (no_body_declarator d, no_body_declarators ds)

no_body_case : (c : Case) → NoBody (two (perhaps c.test) (nodes c.statements))
no_body_case c = (no_body_perhaps c.test, (no_body_nodes c.statements, tt))

no_body_cases : (cs : List Case) → NoBody (cases cs)
no_body_cases [] = tt
no_body_cases (c ∷ cs) = (no_body_case c, no_body_cases cs)

no_body_catch : (c : Catch) → NoBody (two (Part.Word c.name) (nodes c.statements))
no_body_catch c = (tt, (no_body_nodes c.statements, tt))

no_body_caught : (c : Option Catch) → NoBody (caught c)
no_body_caught None = tt
no_body_caught (Some c) = no_body_catch c

no_body_last : (ids : Option (List NodeId)) → NoBody (at_last ids)
no_body_last None = tt
no_body_last (Some ids) = no_body_nodes ids

pub no_body_parts : (n : Node) → IsPlain (production_of n) → NoBody (parts n)
no_body_parts node.This p = tt
no_body_parts (node.Name t) p = (tt, tt)
no_body_parts node.Null p = tt
no_body_parts (node.Bool b) p = tt
no_body_parts (node.Number z) p = tt
no_body_parts (node.Text t) p = (tt, tt)
no_body_parts (node.Array es) p = (no_body_elements es, tt)
no_body_parts (node.Object es) p = (no_body_entries es, tt)
no_body_parts (node.Function h b) p = absurd p
no_body_parts (node.Member e k) p = (tt, (tt, tt))
no_body_parts (node.Index e k) p = (tt, (tt, tt))
no_body_parts (node.Call f xs) p = (tt, (no_body_nodes xs, tt))
no_body_parts (node.New f xs) p = (tt, (no_body_nodes xs, tt))
no_body_parts (node.Postfix o e) p = (tt, tt)
no_body_parts (node.Prefix o e) p = (tt, tt)
no_body_parts (node.Unary o e) p = (tt, tt)
no_body_parts (node.Binary o a b) p = (tt, (tt, tt))
no_body_parts (node.And a b) p = (tt, (tt, tt))
no_body_parts (node.Or a b) p = (tt, (tt, tt))
no_body_parts (node.Conditional a b c) p = (tt, (tt, (tt, tt)))
no_body_parts (node.Assign o a b) p = (tt, (tt, tt))
no_body_parts (node.Comma a b) p = (tt, (tt, tt))
no_body_parts (node.Block ss) p = (no_body_nodes ss, tt)
no_body_parts (node.Var ds) p = (no_body_declarators ds, tt)
no_body_parts node.Empty p = tt
no_body_parts (node.Expression e) p = (tt, tt)
no_body_parts (node.If e s t) p = (tt, (tt, (no_body_perhaps t, tt)))
no_body_parts (node.DoWhile s e) p = (tt, (tt, tt))
no_body_parts (node.While e s) p = (tt, (tt, tt))
no_body_parts (node.For a b c s) p = (no_body_perhaps a, (no_body_perhaps b, (no_body_perhaps c, (tt, tt))))
no_body_parts (node.ForIn x e s) p = (tt, (tt, (tt, tt)))
no_body_parts (node.Continue l) p = (no_body_named l, tt)
no_body_parts (node.Break l) p = (no_body_named l, tt)
no_body_parts (node.Return e) p = (no_body_perhaps e, tt)
no_body_parts (node.Labelled l s) p = (tt, (tt, tt))
no_body_parts (node.Switch e cs) p = (tt, (no_body_cases cs, tt))
no_body_parts (node.Throw e) p = (tt, tt)
no_body_parts (node.Try t) p = (no_body_nodes t.value.block, (no_body_caught t.value.catch, (no_body_last t.value.finally, tt)))
no_body_parts (node.Declaration h b) p = absurd p
no_body_parts (node.Program ss s) p = absurd p
no_body_parts (node.Handler ss s) p = absurd p
no_body_parts (node.Body ss s) p = absurd p

-- what is held and names no body is there
pub within_held : (bodies : ℕ → Tree) (kept : List Kept) (count : ℕ) (p : Part) (t : Tree) → NoBody p → Holds bodies kept p t → IsWithin (length kept) count p
within_held bodies kept count (Part.At i) (Made q from to ts) n h = slice_get_within kept i h.0 h.1
within_held bodies kept count (Part.At i) (Word _) n h = absurd h
within_held bodies kept count (Part.At i) Missing n h = absurd h
within_held bodies kept count (Part.At i) Nil n h = absurd h
within_held bodies kept count (Part.At i) (Cons _ _) n h = absurd h
within_held bodies kept count (Part.Body k) t n h = absurd n
within_held bodies kept count (Part.Word u) t n h = tt
within_held bodies kept count Part.Missing t n h = tt
within_held bodies kept count Part.Nil t n h = tt
within_held bodies kept count (Part.Cons p q) (Cons t u) n h = (within_held bodies kept count p t n.0 h.0, within_held bodies kept count q u n.1 h.1)
within_held bodies kept count (Part.Cons p q) (Made _ _ _ _) n h = absurd h
within_held bodies kept count (Part.Cons p q) (Word _) n h = absurd h
within_held bodies kept count (Part.Cons p q) Missing n h = absurd h
within_held bodies kept count (Part.Cons p q) Nil n h = absurd h

-- A tree stays ------------------------------------------------------------------------------------

-- an arena has what another has, and its bodies are the same
pub record Grows (arena : Arena) (bodies : ℕ → Tree) (kept : List Kept) (more : ℕ → Tree) : Type 0 where
  pub names : (i : ℕ) (k : Kept) → slice_get arena.kept i ≡ Some k → IsWithin i (length arena.pending) (parts k.node)
  pub still : (i : ℕ) (k : Kept) → slice_get arena.kept i ≡ Some k → slice_get kept i ≡ Some k
  pub same : (k : ℕ) → k < length arena.pending → bodies k ≡ more k

module _ (arena : Arena) (bodies : ℕ → Tree) (kept : List Kept) (more : ℕ → Tree) (grows : Grows arena bodies kept more) where
  pub still_held : (p : Part) (t : Tree) → IsWithin (length arena.kept) (length arena.pending) p → Holds bodies arena.kept p t → Holds more kept p t
  still_held (Part.At i) (Made q from to ts) w h = (
    h.0,
    grows.still i h.0 h.1,
    h.2,
    h.3,
    h.4,
    still_held (parts h.0.node) ts
        (within_more i (length arena.pending) (length arena.kept) (length arena.pending) (let l : i < length arena.kept = slice_get_within arena.kept i h.0 h.1 in omega arith) (omega arith) (parts h.0.node) (grows.names i h.0 h.1))
        h.5,
  )
  still_held (Part.At i) (Word _) w h = absurd h
  still_held (Part.At i) Missing w h = absurd h
  still_held (Part.At i) Nil w h = absurd h
  still_held (Part.At i) (Cons _ _) w h = absurd h
  still_held (Part.Body k) t w h = sym (grows.same k w) ∙ h
  still_held (Part.Word s) (Word t) w h = h
  still_held (Part.Word s) (Made _ _ _ _) w h = absurd h
  still_held (Part.Word s) Missing w h = absurd h
  still_held (Part.Word s) Nil w h = absurd h
  still_held (Part.Word s) (Cons _ _) w h = absurd h
  still_held Part.Missing Missing w h = h
  still_held Part.Missing (Made _ _ _ _) w h = absurd h
  still_held Part.Missing (Word _) w h = absurd h
  still_held Part.Missing Nil w h = absurd h
  still_held Part.Missing (Cons _ _) w h = absurd h
  still_held Part.Nil Nil w h = h
  still_held Part.Nil (Made _ _ _ _) w h = absurd h
  still_held Part.Nil (Word _) w h = absurd h
  still_held Part.Nil Missing w h = absurd h
  still_held Part.Nil (Cons _ _) w h = absurd h
  still_held (Part.Cons p q) (Cons t u) w h = (still_held p t w.0 h.0, still_held q u w.1 h.1)
  still_held (Part.Cons p q) (Made _ _ _ _) w h = absurd h
  still_held (Part.Cons p q) (Word _) w h = absurd h
  still_held (Part.Cons p q) Missing w h = absurd h
  still_held (Part.Cons p q) Nil w h = absurd h

  -- so does a part that names no body
  pub part_still : (p : Part) (t : Tree) → NoBody p → Holds bodies arena.kept p t → Holds more kept p t
  part_still p t n h = still_held p t (within_held bodies arena.kept (length arena.pending) p t n h) h

  piece_still : (q : Piece) (t : Tree) → HoldsPiece bodies arena.kept q t → HoldsPiece more kept q t
  piece_still (piece.Node id) t h = part_still (at id) t tt h
  piece_still (piece.Text u) t h = part_still (Part.Word u) t tt h
  piece_still piece.Missing t h = part_still Part.Missing t tt h
  piece_still piece.Empty t h = part_still Part.Nil t tt h
  piece_still (piece.Nodes ids) t h = part_still (nodes ids) t (no_body_nodes ids) h
  piece_still (piece.Elements ids) t h = part_still (elements ids) t (no_body_elements ids) h
  piece_still (piece.Words us) t h = part_still (words us) t (no_body_words us) h
  piece_still (piece.Named d) t h = part_still (two (Part.Word d.name) (perhaps d.value)) t (no_body_declarator d) h
  piece_still (piece.AllNamed ds) t h = part_still (declarators ds) t (no_body_declarators ds) h
  piece_still (piece.Case c) t h = part_still (two (perhaps c.test) (nodes c.statements)) t (no_body_case c) h
  piece_still (piece.Cases cs) t h = part_still (cases cs) t (no_body_cases cs) h
  piece_still (piece.Catch c) t h = part_still (two (Part.Word c.name) (nodes c.statements)) t (no_body_catch c) h
  piece_still (piece.Body b) t (ts, e, h) = (ts, e, part_still (nodes b.statements) ts (no_body_nodes b.statements) h)
  piece_still (piece.Whole w) t (ts, e, h) = (ts, e, part_still (nodes w.statements) ts (no_body_nodes w.statements) h)

  pub pieces_still : (qs : List Piece) (vs : List Tree) → HoldsPieces bodies arena.kept qs vs → HoldsPieces more kept qs vs
  pieces_still [] [] h = tt
  pieces_still [] (t ∷ ts) h = absurd h
  pieces_still (q ∷ qs) [] h = absurd h
  pieces_still (q ∷ qs) (t ∷ ts) h = (piece_still q t h.0, pieces_still qs ts h.1)

  pub scope_still : (f b : Node) → ((ss : List NodeId) (t : Tree) → Holds bodies arena.kept (nodes ss) t → Holds more kept (nodes ss) t) → CarriesScope bodies arena.kept f b → CarriesScope more kept f b
  scope_still (node.Function h k) (node.Body ss s) on (t, g, e) = (t, on ss t g, e)
  scope_still (node.Declaration h k) (node.Body ss s) on (t, g, e) = (t, on ss t g, e)
  scope_still (node.Function h k) _ on c = absurd c
  scope_still (node.Declaration h k) _ on c = absurd c
  scope_still _ b on c = absurd c

  node_still : (id : NodeId) (n : Node) (new : Arena) → new.kept ≡ kept → node_at arena id ≡ Some n → node_at new id ≡ Some n
  node_still id n new e h = at_kept (slice_get arena.kept id.number) refl h where
    at_kept : (o : Option Kept) → slice_get arena.kept id.number ≡ o → option_map (λ (k : Kept). k.node) (slice_get arena.kept id.number) ≡ Some n → node_at new id ≡ Some n
    at_kept None f g = absurd (none-some n (sym (ap (option_map (λ (k : Kept). k.node)) f) ∙ g))
    at_kept (Some k) f g =
        ap (option_map (λ (k : Kept). k.node)) (ap (λ z. slice_get z id.number) e ∙ grows.still id.number k f) ∙ sym (ap (option_map (λ (k : Kept). k.node)) f) ∙ g

  pub function_still : (new : Arena) (p : Pending) (id : NodeId) → new.kept ≡ kept → IsFunction arena bodies p id → IsFunction new more p id
  function_still new p id e f = record {
    function = f.function;
    body = f.body;
    function_there = node_still p.node f.function new e f.function_there;
    body_there = node_still id f.body new e f.body_there;
    scope = subst (λ z. CarriesScope more z f.function f.body) (sym e)
        (scope_still f.function f.body (λ ss t h. part_still (nodes ss) t (no_body_nodes ss) h) f.scope);
  }

-- what stands in front stays
pub get_front : {X : Type 0} (xs : List X) (x : X) (i : ℕ) (y : X) → slice_get xs i ≡ Some y → slice_get (xs ++ x ∷ []) i ≡ Some y
get_front [] x i y h = absurd (none-some y h)
get_front (z ∷ xs) x zero y h = h
get_front (z ∷ xs) x (suc i) y h = get_front xs x i y h

pub get_last : {X : Type 0} (xs : List X) (x : X) → slice_get (xs ++ x ∷ []) (length xs) ≡ Some x
get_last [] x = refl
get_last (z ∷ xs) x = get_last xs x

-- A node more -------------------------------------------------------------------------------------

pub grows_by_node : (arena : Arena) (bodies : ℕ → Tree) (k : Kept) → IsRead arena bodies → Grows arena bodies (arena.kept ++ k ∷ []) bodies
grows_by_node arena bodies k is = record {
  names = is.names;
  still = λ i x h. get_front arena.kept k i x h;
  same = λ j l. refl;
}

pub read_with_node : (arena : Arena) (bodies : ℕ → Tree) (k : Kept) → IsRead arena bodies → IsWithin (length arena.kept) (length arena.pending) (parts k.node) → IsRead (with_node k arena) bodies
read_with_node arena bodies k is within =
    let grows = grows_by_node arena bodies k is in
    record {
      as_many = is.as_many;
      names = λ i x h. elim (get_pushed arena.kept k i x h) [
        | inl e ↦ is.names i x e
        | inr e ↦ subst (λ (z : Kept). IsWithin i (length arena.pending) (parts z.node)) e.1 (subst (λ n. IsWithin n (length arena.pending) (parts k.node)) (sym e.0) within)
      ];
      filled = λ j l. let f = is.filled j l in (f.0, f.1, part_still arena bodies (arena.kept ++ k ∷ []) bodies grows (at f.0) (bodies j) tt f.2);
      functions = λ j p id a b. function_still arena bodies (arena.kept ++ k ∷ []) bodies grows (with_node k arena) p id refl (is.functions j p id a b);
    }
