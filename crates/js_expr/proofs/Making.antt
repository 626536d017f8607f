-- What a making makes of the trees of a reading.
use Rattle.std.proofs.Common.{◌≡◌, ℕ, zero, suc, true, List, [], ◌∷◌, ◌++◌, length, Option, Some, None, refl, sym, ◌∙◌, ap, subst}
use Rattle.std.specs.List.{slice_get}
use Rattle.std.specs.Prelude.{nat_eq}
use Rattle.std.proofs.lemmas.Bool.{eqb-true}
use Rattle.js_tokens.specs.declared.token.Token.{Token}
use Rattle.js_tree.specs.declared.node.NodeId.{NodeId}
use Rattle.js_tree.specs.declared.node.Node.{Node}
use Rattle.js_tree.specs.declared.node.Node.TheVariants as node
use Rattle.js_tree.specs.declared.production.Production.{Production}
use Rattle.js_tree.specs.declared.production.Production.TheVariants as production
use Rattle.js_tree.specs.declared.script.Braces.{Braces}
use Rattle.js_tree.specs.declared.script.FunctionHead.{FunctionHead}
use Rattle.js_tree.specs.declared.script.FunctionHead.TheVariants as head
use Rattle.js_tree.specs.declared.script.Kept.{Kept}
use Rattle.js_tree.specs.Trees.{Tree, Made, Nil, Cons, Part, Holds, parts, production_of, nodes}
use Rattle.js_tree.specs.Arena.{Arena, IsWithin, function_of, with_node}
use Rattle.js_grammar.specs.declared.symbol.Build.{Build}
use Rattle.js_grammar.specs.declared.symbol.Build.TheVariants as build
use Rattle.js_grammar.specs.Derivations.{built, grouped}
use Rattle.js_grammar.specs.inner.Sorts.{Sort, is_of, are_of, made, before, without, chosen, onto, parts_of}
use Rattle.js_grammar.specs.inner.Sorts as sort
use Rattle.js_grammar.proofs.Sorting.{are_themselves}
use Rattle.js_pieces.specs.declared.pieces.Piece.{Piece}
use Rattle.js_pieces.specs.declared.pieces.Piece.TheVariants as piece
use Rattle.js_pieces.specs.Pieces.{HoldsPiece, HoldsPieces, Becomes, Fits, Takes, TakesAll, sort_of, sorts}
use Rattle.js_pieces.specs.Nodes.{IsPlain, Makes, parts_back}
use Rattle.js_pieces.specs.Functions.{AddsFunction, Encloses, Finishes, HasStatements, declared_as, declaring, parts_before}
use Rattle.js_pieces.proofs.Gathering.{AreTaken, gathered, parts_gathered, taken}
use Rattle.js_productions.specs.declared.seeing.Glance.{Glance}
use Rattle.js_productions.specs.Glances.{sight_of}
use Rattle.js_expr.specs.declared.trees.Trees.{Trees}
use Rattle.js_expr.specs.Trees.{Builds, HoldsTrees, IsRead, LastIsOf, MayBuild}
use Rattle.js_expr.proofs.Wide.{chosen_is}
use Rattle.js_expr.proofs.Growing.{get_last, grows_by_node, no_body_nodes, no_body_parts, pieces_still, part_still, read_with_node, within_held}
use Rattle.js_expr.proofs.Declared.{bodies_with, function_there, grows_by_function, read_with_function, same_there}

some_is : {A : Type 0} {a b : A} → Some a ≡ Some b → a ≡ b
some_is e = cc

-- Pieces alone ------------------------------------------------------------------------------------

-- the pieces become what a making makes of them, where this is seen
pub record Turns (b : Build) (glance : Glance) (ps qs : List Piece) : Type 0 where
  pub trees : (bodies : ℕ → Tree) (kept : List Kept) (ts : List Token) (vs : List Tree) → HoldsPieces bodies kept ps vs → HoldsPieces bodies kept qs (built b (sight_of glance ts) vs)
  pub sorts_fit : (ds : List Sort) → made b (sorts ps) ≡ Some ds → are_of (sorts qs) ds ≡ true
  pub whole : (q : Production) → b ≡ build.Root q → LastIsOf q qs

pub turned : (b : Build) (glance : Glance) (old new : Trees) → new.script ≡ old.script → Turns b glance old.pieces new.pieces → Builds b glance old new
turned b glance old new e t = record {
  trees = λ ts vs h. record {
    bodies = h.bodies;
    read = subst (λ z. IsRead z h.bodies) (sym e) h.read;
    holds = subst (λ (z : Arena). HoldsPieces h.bodies z.kept new.pieces (built b (sight_of glance ts) vs)) (sym e) (t.trees h.bodies old.script.kept ts vs h.holds);
  };
  sorts = t.sorts_fit;
  whole = t.whole;
}

pub became : (b : Build) (glance : Glance) (ps qs : List Piece) → ((q : Production) → b ≡ build.Root q → ⊥) → Becomes b ps qs → Turns b glance ps qs
became b glance ps qs n h = record { whole = λ q e. absurd (n q e); trees = λ bodies kept ts vs g. h.trees bodies kept (sight_of glance ts) vs g; sorts_fit = h.sorts }

put_sorts : (cs ds : List Sort) → Some cs ≡ Some ds → are_of cs ds ≡ true
put_sorts cs ds e = subst (λ z. are_of cs z ≡ true) (some_is e) (are_themselves cs)

pub put_missing : (glance : Glance) (ps qs : List Piece) → qs ≡ piece.Missing ∷ ps → Turns build.Missing glance ps qs
put_missing glance ps qs e = subst (Turns build.Missing glance ps) (sym e) (record { whole = λ q e. cc; trees = λ bodies kept ts vs h. (tt, h); sorts_fit = λ ds f. put_sorts (sort.Gap ∷ sorts ps) ds f })

pub put_text : (glance : Glance) (t : List ℕ) (ps qs : List Piece) → qs ≡ piece.Text t ∷ ps → Turns (build.Text t) glance ps qs
put_text glance t ps qs e = subst (Turns (build.Text t) glance ps) (sym e) (record { whole = λ q e. cc; trees = λ bodies kept ts vs h. (refl, h); sorts_fit = λ ds f. put_sorts (sort.Text ∷ sorts ps) ds f })

pub put_empty : (glance : Glance) (ps qs : List Piece) → qs ≡ piece.Empty ∷ ps → Turns (build.Group 0) glance ps qs
put_empty glance ps qs e = subst (Turns (build.Group 0) glance ps) (sym e) (record { whole = λ q e. cc; trees = λ bodies kept ts vs h. (tt, h); sorts_fit = λ ds f. put_sorts (sort.Empty ∷ sorts ps) ds f })

-- the same making by an equation
pub builds_as : (b c : Build) (glance : Glance) (old new : Trees) → b ≡ c → Builds c glance old new → Builds b glance old new
builds_as b c glance old new e h = subst (λ z. Builds z glance old new) (sym e) h

pub may_as : (b c : Build) (trees : Trees) → b ≡ c → MayBuild b trees → MayBuild c trees
may_as b c trees e h = subst (λ z. MayBuild z trees) e h

-- a group that fits is empty or of two
pub two_or_none : (count : ℕ) (cs ds : List Sort) → sort.grouped count cs ≡ Some ds → (count ≡ 0 → ⊥) → count ≡ 2
two_or_none zero cs ds e n = absurd (n refl)
two_or_none (suc zero) cs ds e n = cc
two_or_none (suc (suc zero)) cs ds e n = refl
two_or_none (suc (suc (suc count))) cs ds e n = cc

-- What fits a node ----------------------------------------------------------------------------------

before_is : (c : Sort) (o : Option (List Sort)) (ds : List Sort) → before c o ≡ Some ds → (rest : List Sort) × (o ≡ Some rest) × (ds ≡ c ∷ rest)
before_is c None ds e = cc
before_is c (Some rest) ds e = (rest, refl, sym (some_is e))

-- so many parts, and they are taken off
pub record FitsNode (q : Production) (count : ℕ) (ps : List Piece) (ds : List Sort) : Type 0 where
  pub count_is : nat_eq count (length (parts_of q)) ≡ true
  pub rest : List Sort
  pub fits : without (onto (parts_of q) []) (sorts ps) ≡ Some rest
  pub all : ds ≡ sort.sort_of q ∷ rest

pub fits_node : (q : Production) (from count : ℕ) (ps : List Piece) (ds : List Sort) → made (build.Node q from count) (sorts ps) ≡ Some ds → FitsNode q count ps ds
fits_node q from count ps ds e =
    let (n, is) = chosen_is (nat_eq count (length (parts_of q))) (before (sort.sort_of q) (without (onto (parts_of q) []) (sorts ps))) ds e in
    let (rest, f, all) = before_is (sort.sort_of q) (without (onto (parts_of q) []) (sorts ps)) ds is in
    record { count_is = n; rest = rest; fits = f; all = all }

pub node_fits : (q : Production) (from count : ℕ) (trees : Trees) → MayBuild (build.Node q from count) trees → Fits (onto (parts_of q) []) trees.pieces
node_fits q from count trees m = let f = fits_node q from count trees.pieces m.sorts_behind m.fits in (f.rest, f.fits)

pub counted : (q : Production) (from count : ℕ) (trees : Trees) → MayBuild (build.Node q from count) trees → nat_eq count (length (parts_of q)) ≡ true
counted q from count trees m = (fits_node q from count trees.pieces m.sorts_behind m.fits).count_is

pub root_fits : (q : Production) (trees : Trees) → MayBuild (build.Root q) trees → Fits (sort.Nodes ∷ []) trees.pieces
root_fits q trees m = let (rest, f, all) = before_is sort.Root (without (sort.Nodes ∷ []) (sorts trees.pieces)) m.sorts_behind m.fits in (rest, f)

same_count : (a b : ℕ) → nat_eq a b ≡ true → a ≡ b
same_count a b e = eqb-true a b e

-- the sorts that are left are those of the pieces that are
rest_sorts : (ds : List Sort) (qs : List Part) (old mid : List Piece) (rest : List Sort) → length qs ≡ length ds → TakesAll old mid qs → without ds (sorts old) ≡ Some rest → rest ≡ sorts mid
rest_sorts [] [] old mid rest n t e = sym (some_is e) ∙ ap sorts t
rest_sorts [] (q ∷ qs) old mid rest n t e = cc
rest_sorts (d ∷ ds) [] old mid rest n t e = cc
rest_sorts (d ∷ ds) (q ∷ qs) old mid rest n (next, (x, is, part), more) e =
    let (b, f) = chosen_is (is_of (sort_of x) d) (without ds (sorts next)) rest (sym (ap (λ z. without (d ∷ ds) (sorts z)) is) ∙ e) in
    rest_sorts ds qs next mid rest (cc) more f

first_held : (bodies : ℕ → Tree) (kept : List Kept) (q : Piece) (qs : List Piece) (vs : List Tree) → HoldsPieces bodies kept (q ∷ qs) vs →
    (u : Tree) × (us : List Tree) × (vs ≡ u ∷ us) × HoldsPiece bodies kept q u × HoldsPieces bodies kept qs us
first_held bodies kept q qs [] h = absurd h
first_held bodies kept q qs (u ∷ us) (g, h) = (u, us, refl, g, h)

are_taken : (bodies : ℕ → Tree) (kept : List Kept) (p : Part) (ps : List Piece) (x : Tree × List Tree) → AreTaken bodies kept p ps x → Holds bodies kept p x.0 × HoldsPieces bodies kept ps x.1
are_taken bodies kept p ps (t, ts) h = h

same_sorts : (c : Sort) (cs : List Sort) (q : Production) (rest ds : List Sort) → sort.sort_of q ≡ c → rest ≡ cs → ds ≡ sort.sort_of q ∷ rest → are_of (c ∷ cs) ds ≡ true
same_sorts c cs q rest ds e f g = subst (λ z. are_of (c ∷ cs) z ≡ true) (sym (g ∙ ap (λ z. z ∷ rest) e ∙ ap (λ z. c ∷ z) f)) (are_themselves (c ∷ cs))

-- Bodies and whole texts ----------------------------------------------------------------------------

-- a list of statements was taken off, and the piece in its place is the node of it
statements_turn : (q : Production) (from count : ℕ) (glance : Glance) (ps qs : List Piece) (m : Piece) (c : Sort) → parts_of q ≡ sort.Nodes ∷ [] → sort.sort_of q ≡ c → sort_of m ≡ c →
    nat_eq count (length (parts_of q)) ≡ true → (ss : List NodeId) (rest : List Piece) → Takes ps rest (nodes ss) → qs ≡ m ∷ rest →
    ((bodies : ℕ → Tree) (kept : List Kept) (ts : Tree) → Holds bodies kept (nodes ss) ts → HoldsPiece bodies kept m (Made q from glance.before (Cons ts Nil))) →
    Turns (build.Node q from count) glance ps qs
statements_turn q from count glance ps qs m c one s t n ss rest (x, is, part) e f =
    let counted : count ≡ 1 = same_count count (length (parts_of q)) n ∙ ap length one in
    subst (λ z. Turns (build.Node q from z) glance ps qs) (sym counted) (
    subst (Turns (build.Node q from 1) glance ps) (sym e) (record {
      whole = λ p g. cc;
      trees = λ bodies kept ts vs h.
          let (u, us, same, k, l) = first_held bodies kept x rest vs (subst (λ z. HoldsPieces bodies kept z vs) is h) in
          subst (λ z. HoldsPieces bodies kept (m ∷ rest) (built (build.Node q from 1) (sight_of glance ts) z)) (sym same) (f bodies kept u (part bodies kept u k), l);
      sorts_fit = λ ds g.
          let fit = fits_node q from 1 ps ds g in
          let all : fit.rest ≡ sorts rest = rest_sorts (sort.Nodes ∷ []) (nodes ss ∷ []) ps rest fit.rest refl (rest, (x, is, part), refl)
          (ap (λ z. without (onto z []) (sorts ps)) (sym one) ∙ fit.fits) in
          subst (λ z. are_of (z ∷ sorts rest) ds ≡ true) (sym t) (same_sorts c (sorts rest) q fit.rest ds s all fit.all);
    })
    )

pub body_turns : (from to count : ℕ) (braces : Braces) (first last : ℕ) (glance : Glance) (ps qs : List Piece) → first ≡ from → last ≡ glance.before → nat_eq count 1 ≡ true → Encloses first last braces ps qs →
    Turns (build.Node production.Body from count) glance ps qs
body_turns from to count braces first last glance ps qs f l n (ss, rest, takes, e) =
    statements_turn production.Body from count glance ps qs (piece.Body (record { statements = ss; from = first; to = last; braces = braces })) sort.Body refl refl refl n ss rest takes e
    (λ bodies kept ts h. (ts, ap (λ z. Made production.Body z glance.before (Cons ts Nil)) (sym f) ∙ ap (λ z. Made production.Body first z (Cons ts Nil)) (sym l), h))

pub whole_turns : (q : Production) (from count : ℕ) (first last : ℕ) (glance : Glance) (ps qs : List Piece) → parts_of q ≡ sort.Nodes ∷ [] → sort.sort_of q ≡ sort.Root → first ≡ from → last ≡ glance.before →
    nat_eq count (length (parts_of q)) ≡ true → Finishes q first last ps qs → Turns (build.Node q from count) glance ps qs
whole_turns q from count first last glance ps qs one s f l n (ss, rest, takes, e) =
    statements_turn q from count glance ps qs (piece.Whole (record { production = q; statements = ss; from = first; to = last })) sort.Root one s refl n ss rest takes e
    (λ bodies kept ts h. (ts, ap (λ z. Made q z glance.before (Cons ts Nil)) (sym f) ∙ ap (λ z. Made q first z (Cons ts Nil)) (sym l), h))

same_root : {p q : Production} → build.Root q ≡ build.Root p → q ≡ p
same_root e = cc

pub root_turns : (q : Production) (last : ℕ) (glance : Glance) (ps qs : List Piece) → last ≡ glance.from → Finishes q 0 last ps qs → Turns (build.Root q) glance ps qs
root_turns q last glance ps qs l (ss, rest, (x, is, part), e) =
    subst (Turns (build.Root q) glance ps) (sym e) (record {
      whole = λ p g. (record { production = q; statements = ss; from = 0; to = last }, rest, refl, same_root g);
      trees = λ bodies kept ts vs h.
          let (u, us, same, k, g) = first_held bodies kept x rest vs (subst (λ z. HoldsPieces bodies kept z vs) is h) in
          subst (λ z. HoldsPieces bodies kept (piece.Whole (record { production = q; statements = ss; from = 0; to = last }) ∷ rest) (built (build.Root q) (sight_of glance ts) z)) (sym same)
          ((u, ap (λ z. Made q 0 z (Cons u Nil)) (sym l), part bodies kept u k), g);
      sorts_fit = λ ds g.
          let (r, f, all) = before_is sort.Root (without (sort.Nodes ∷ []) (sorts ps)) ds g in
          let same = rest_sorts (sort.Nodes ∷ []) (nodes ss ∷ []) ps rest r refl (rest, (x, is, part), refl) f in
          subst (λ z. are_of (sort.Root ∷ sorts rest) z ≡ true) (sym (all ∙ ap (λ z. sort.Root ∷ z) same)) (are_themselves (sort.Root ∷ sorts rest));
    })

-- Nodes ---------------------------------------------------------------------------------------------

back_count : (n : Node) → IsPlain (production_of n) → length (parts_back n) ≡ length (onto (parts_of (production_of n)) [])
back_count (node.Function h b) p = absurd p
back_count (node.Declaration h b) p = absurd p
back_count (node.Program ss h) p = absurd p
back_count (node.Handler ss h) p = absurd p
back_count (node.Body ss h) p = absurd p
back_count _ p = refl

part_count : (n : Node) → IsPlain (production_of n) → length (parts_back n) ≡ length (parts_of (production_of n))
part_count (node.Function h b) p = absurd p
part_count (node.Declaration h b) p = absurd p
part_count (node.Program ss h) p = absurd p
part_count (node.Handler ss h) p = absurd p
part_count (node.Body ss h) p = absurd p
part_count _ p = refl

plain_sort : (q : Production) → IsPlain q → sort.sort_of q ≡ sort.Node
plain_sort production.Function p = absurd p
plain_sort production.Declaration p = absurd p
plain_sort production.Program p = absurd p
plain_sort production.Handler p = absurd p
plain_sort production.Body p = absurd p
plain_sort _ p = refl

-- the parts of a node that is made are those of the trees that were taken off
pub parts_held : (q : Production) (n : Node) (ps mid : List Piece) → IsPlain q → Makes q ps n mid → (bodies : ℕ → Tree) (kept : List Kept) (vs : List Tree) → HoldsPieces bodies kept ps vs →
    Holds bodies kept (parts n) (grouped (length (parts_back n)) Nil vs).0 × HoldsPieces bodies kept mid (grouped (length (parts_back n)) Nil vs).1
parts_held q n ps mid plain m bodies kept vs h =
    let both = are_taken bodies kept (gathered (parts_back n) Part.Nil) mid (grouped (length (parts_back n)) Nil vs) (taken bodies kept (parts_back n) ps mid Part.Nil Nil vs m.taken tt h) in
    (subst (λ z. Holds bodies kept z (grouped (length (parts_back n)) Nil vs).0) (sym (parts_gathered n (subst IsPlain (sym m.is) plain))) both.0, both.1)

pub node_within : (q : Production) (n : Node) (mid : List Piece) (trees : Trees) → IsPlain q → Makes q trees.pieces n mid → (vs : List Tree) → HoldsTrees trees vs →
    IsWithin (length trees.script.kept) (length trees.script.pending) (parts n)
node_within q n mid trees plain m vs h =
    within_held h.bodies trees.script.kept (length trees.script.pending) (parts n) (grouped (length (parts_back n)) Nil vs).0 (no_body_parts n (subst IsPlain (sym m.is) plain))
    (parts_held q n trees.pieces mid plain m h.bodies trees.script.kept vs h.holds).0

pub plain_built : (q : Production) (from count first last : ℕ) (glance : Glance) (old new : Trees) (n : Node) (id : NodeId) (mid : List Piece) → IsPlain q → Makes q old.pieces n mid →
    first ≡ from → last ≡ glance.before → new.script ≡ with_node (record { node = n; from = first; to = last }) old.script → id.number ≡ length old.script.kept → new.pieces ≡ piece.Node id ∷ mid →
    MayBuild (build.Node q from count) old → Builds (build.Node q from count) glance old new
plain_built q from count first last glance old new n id mid plain m f l script number pieces may =
    let k : Kept = record { node = n; from = first; to = last } in
    let plain_n : IsPlain (production_of n) = subst IsPlain (sym m.is) plain in
    let fit = fits_node q from count old.pieces may.sorts_behind may.fits in
    let counted : count ≡ length (parts_back n) = same_count count (length (parts_of q)) fit.count_is ∙ ap (λ z. length (parts_of z)) (sym m.is) ∙ sym (part_count n plain_n) in
    record {
      whole = λ p g. cc;
      trees = λ ts vs h.
          let both = parts_held q n old.pieces mid plain m h.bodies old.script.kept vs h.holds in
          let grows = grows_by_node old.script h.bodies k h.read in
          let within = within_held h.bodies old.script.kept (length old.script.pending) (parts n) (grouped (length (parts_back n)) Nil vs).0 (no_body_parts n plain_n) both.0 in
          let there : slice_get (old.script.kept ++ k ∷ []) id.number ≡ Some k = ap (slice_get (old.script.kept ++ k ∷ [])) number ∙ get_last old.script.kept k in
          let held : HoldsPieces h.bodies (with_node k old.script).kept (piece.Node id ∷ mid) (Made q from glance.before (grouped (length (parts_back n)) Nil vs).0 ∷ (grouped (length (parts_back n)) Nil vs).1) = (
            (k, there, m.is, f, l, part_still old.script h.bodies (old.script.kept ++ k ∷ []) h.bodies grows (parts n) (grouped (length (parts_back n)) Nil vs).0 (no_body_parts n plain_n) both.0),
            pieces_still old.script h.bodies (old.script.kept ++ k ∷ []) h.bodies grows mid (grouped (length (parts_back n)) Nil vs).1 both.1,
          ) in
          record {
            bodies = h.bodies;
            read = subst (λ z. IsRead z h.bodies) (sym script) (read_with_node old.script h.bodies k h.read within);
            holds =
                subst (λ (z : Arena). HoldsPieces h.bodies z.kept new.pieces (built (build.Node q from count) (sight_of glance ts) vs)) (sym script)
                (subst (λ z. HoldsPieces h.bodies (with_node k old.script).kept z (built (build.Node q from count) (sight_of glance ts) vs)) (sym pieces)
                (subst (λ z. HoldsPieces h.bodies (with_node k old.script).kept (piece.Node id ∷ mid) (built (build.Node q from z) (sight_of glance ts) vs)) (sym counted) held));
          };
      sorts = λ ds g.
          let fits = fits_node q from count old.pieces ds g in
          let same = rest_sorts (onto (parts_of q) []) (parts_back n) old.pieces mid fits.rest
          (back_count n plain_n ∙ ap (λ z. length (onto (parts_of z) [])) m.is) m.taken fits.fits in
          subst (λ z. are_of (sorts z) ds ≡ true) (sym pieces) (same_sorts sort.Node (sorts mid) q fits.rest ds (plain_sort q plain) same fits.all);
    }

-- Functions -------------------------------------------------------------------------------------------

-- the arena has the statements of the last piece
pub has_statements : (arena : Arena) (bodies : ℕ → Tree) (ps : List Piece) (vs : List Tree) → HoldsPieces bodies arena.kept ps vs → HasStatements arena ps
has_statements arena bodies (piece.Body b ∷ ps) (v ∷ vs) ((ts, e, h), g) = within_held bodies arena.kept (length arena.pending) (nodes b.statements) ts (no_body_nodes b.statements) h
has_statements arena bodies (piece.Body b ∷ ps) [] h = absurd h
has_statements arena bodies (piece.Whole w ∷ ps) (v ∷ vs) ((ts, e, h), g) = within_held bodies arena.kept (length arena.pending) (nodes w.statements) ts (no_body_nodes w.statements) h
has_statements arena bodies (piece.Whole w ∷ ps) [] h = absurd h
has_statements arena bodies _ vs h = tt

two_before : (h : FunctionHead) → length (parts_before h) ≡ 2
two_before (head.Expression h) = refl
two_before (head.Declaration h) = refl

function_parts : (h : FunctionHead) (n : ℕ) → parts (function_of h (record { number = n })) ≡ gathered (parts_before h) (Part.Cons (Part.Body n) Part.Nil)
function_parts (head.Expression h) n = refl
function_parts (head.Declaration h) n = refl

function_production : (h : FunctionHead) (n : ℕ) → production_of (function_of h (record { number = n })) ≡ declared_as h
function_production (head.Expression h) n = refl
function_production (head.Declaration h) n = refl

-- a function's parts: what is before its body, and its body
abbrev pub ThreeParts : Production → Type 0
ThreeParts q = (c : Sort) × (parts_of q ≡ c ∷ sort.Words ∷ sort.Body ∷ []) × (sort.sort_of q ≡ sort.Node)

-- the function's node holds what was before its body, and the body
node_held : (q : Production) (first last : ℕ) (arena : Arena) (bodies : ℕ → Tree) (h : FunctionHead) (n : ℕ) (mid rest : List Piece) (id : NodeId) (v : Tree) (us : List Tree) → declared_as h ≡ q →
    slice_get arena.kept id.number ≡ Some (record { node = function_of h (record { number = n }); from = first; to = last }) → bodies n ≡ v → TakesAll mid rest (parts_before h) → HoldsPieces bodies arena.kept mid us →
    HoldsPieces bodies arena.kept (piece.Node id ∷ rest) (Made q first last (grouped 3 Nil (v ∷ us)).0 ∷ (grouped 3 Nil (v ∷ us)).1)
node_held q first last arena bodies h n mid rest id v us is there body all held =
    let both = are_taken bodies arena.kept (gathered (parts_before h) (Part.Cons (Part.Body n) Part.Nil)) rest (grouped (length (parts_before h)) (Cons v Nil) us)
    (taken bodies arena.kept (parts_before h) mid rest (Part.Cons (Part.Body n) Part.Nil) (Cons v Nil) us all (body, tt) held) in
    let counted : Holds bodies arena.kept (gathered (parts_before h) (Part.Cons (Part.Body n) Part.Nil)) (grouped 2 (Cons v Nil) us).0 × HoldsPieces bodies arena.kept rest (grouped 2 (Cons v Nil) us).1 =
    subst (λ z. Holds bodies arena.kept (gathered (parts_before h) (Part.Cons (Part.Body n) Part.Nil)) (grouped z (Cons v Nil) us).0 × HoldsPieces bodies arena.kept rest (grouped z (Cons v Nil) us).1) (two_before h) both in (
      (
        record { node = function_of h (record { number = n }); from = first; to = last },
        there,
        function_production h n ∙ is,
        refl,
        refl,
        subst (λ z. Holds bodies arena.kept z (grouped 2 (Cons v Nil) us).0) (sym (function_parts h n)) counted.0,
      ),
      counted.1,
    )

-- the trees of a function that is added
function_trees : (q : Production) (first last : ℕ) (old new : Arena) (ps rest : List Piece) (id : NodeId) (bodies : ℕ → Tree) (vs : List Tree) → AddsFunction q first last old ps id new rest →
    IsRead old bodies → HoldsPieces bodies old.kept ps vs →
    (more : ℕ → Tree) × IsRead new more × HoldsPieces more new.kept (piece.Node id ∷ rest) (Made q first last (grouped 3 Nil vs).0 ∷ (grouped 3 Nil vs).1)
function_trees q first last old new ps rest id bodies vs adds is holds =
    let (v, us, same, here, others) = first_held bodies old.kept (piece.Body adds.body) adds.mid vs (subst (λ z. HoldsPieces bodies old.kept z vs) adds.body_taken holds) in
    let (bs, body, held) = here in
    let there = within_held bodies old.kept (length old.pending) (nodes adds.body.statements) bs (no_body_nodes adds.body.statements) held in
    let scoped = adds.scoped bodies bs held in
    let made_body : Tree = Made production.Body adds.body.from adds.body.to (Cons bs Nil) in
    let more : ℕ → Tree = bodies_with (length old.pending) made_body bodies in
    let now : Arena = declaring adds.head adds.scope adds.body first last old in
    let grows = grows_by_function old bodies adds.head adds.scope adds.body first last bs is there held scoped in
    let trees : HoldsPieces more now.kept (piece.Node id ∷ rest) (Made q first last (grouped 3 Nil (v ∷ us)).0 ∷ (grouped 3 Nil (v ∷ us)).1) =
    node_held q first last now more adds.head (length old.pending) adds.mid rest id v us adds.is
    (ap (slice_get now.kept) adds.number ∙ function_there old bodies adds.head adds.scope adds.body first last bs is there held scoped)
    (same_there (length old.pending) made_body bodies ∙ sym body) adds.taken
    (pieces_still old bodies now.kept more grows adds.mid us others) in (
      more,
      subst (λ z. IsRead z more) (sym adds.added) (read_with_function old bodies adds.head adds.scope adds.body first last bs is there held scoped),
      subst (λ z. HoldsPieces more new.kept (piece.Node id ∷ rest) (Made q first last (grouped 3 Nil z).0 ∷ (grouped 3 Nil z).1)) (sym same)
          (subst (λ (z : Arena). HoldsPieces more z.kept (piece.Node id ∷ rest) (Made q first last (grouped 3 Nil (v ∷ us)).0 ∷ (grouped 3 Nil (v ∷ us)).1)) (sym adds.added) trees),
    )

function_sorts : (q : Production) (first last : ℕ) (old new : Arena) (ps rest : List Piece) (id : NodeId) (ds : List Sort) → ThreeParts q → AddsFunction q first last old ps id new rest →
    FitsNode q 3 ps ds → are_of (sort.Node ∷ sorts rest) ds ≡ true
function_sorts q first last old new ps rest id ds (c, three, sorted) adds fits =
    let here : without (sort.Body ∷ sort.Words ∷ c ∷ []) (sorts (piece.Body adds.body ∷ adds.mid)) ≡ Some fits.rest =
    ap (λ z. without (sort.Body ∷ sort.Words ∷ c ∷ []) (sorts z)) (sym adds.body_taken) ∙ ap (λ z. without (onto z []) (sorts ps)) (sym three) ∙ fits.fits in
    let same = rest_sorts (sort.Words ∷ c ∷ []) (parts_before adds.head) adds.mid rest fits.rest (two_before adds.head) adds.taken here in
    same_sorts sort.Node (sorts rest) q fits.rest ds sorted same fits.all

pub function_built : (q : Production) (from count first last : ℕ) (glance : Glance) (old new : Trees) (id : NodeId) (rest : List Piece) → ThreeParts q → first ≡ from → last ≡ glance.before →
    AddsFunction q first last old.script old.pieces id new.script rest → new.pieces ≡ piece.Node id ∷ rest → MayBuild (build.Node q from count) old → Builds (build.Node q from count) glance old new
function_built q from count first last glance old new id rest three f l adds pieces may =
    let fit = fits_node q from count old.pieces may.sorts_behind may.fits in
    let counted : count ≡ 3 = same_count count (length (parts_of q)) fit.count_is ∙ ap length three.1 in
    record {
      whole = λ p g. cc;
      trees = λ ts vs h.
          let (more, read, held) = function_trees q first last old.script new.script old.pieces rest id h.bodies vs adds h.read h.holds in
          record {
            bodies = more;
            read = read;
            holds =
                subst (λ z. HoldsPieces more new.script.kept z (built (build.Node q from count) (sight_of glance ts) vs)) (sym pieces)
                (subst (λ z. HoldsPieces more new.script.kept (piece.Node id ∷ rest) (built (build.Node q from z) (sight_of glance ts) vs)) (sym counted)
                (subst (λ z. HoldsPieces more new.script.kept (piece.Node id ∷ rest) (Made q from z (grouped 3 Nil vs).0 ∷ (grouped 3 Nil vs).1)) l
                (subst (λ z. HoldsPieces more new.script.kept (piece.Node id ∷ rest) (Made q z last (grouped 3 Nil vs).0 ∷ (grouped 3 Nil vs).1)) f held)));
          };
      sorts = λ ds g.
          let fits = fits_node q from 3 old.pieces ds (ap (λ z. made (build.Node q from z) (sorts old.pieces)) (sym counted) ∙ g) in
          subst (λ z. are_of (sorts z) ds ≡ true) (sym pieces) (function_sorts q first last old.script new.script old.pieces rest id ds three adds fits);
    }
