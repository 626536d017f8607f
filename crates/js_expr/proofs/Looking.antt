-- What is seen of the trees of a reading.
use Rattle.std.proofs.Common.{◌≡◌, ℕ, ◌<◌, List, [], ◌∷◌, length, Option, Some, None, refl, sym, ◌∙◌, ap, subst, arith}
use Rattle.std.specs.List.{slice_get}
use Rattle.std.specs.Option.{option_map}
use Rattle.std.proofs.lemmas.Option.{same_Some, none-some, slice_get_within}
use Rattle.js_tree.specs.declared.node.NodeId.{NodeId}
use Rattle.js_tree.specs.declared.node.Case.{Case}
use Rattle.js_tree.specs.declared.node.Declarator.{Declarator}
use Rattle.js_tree.specs.declared.node.Node.{Node}
use Rattle.js_tree.specs.declared.script.Kept.{Kept}
use Rattle.js_tree.specs.Trees.{Tree, Made, Word, Missing, Nil, Cons, Part, Holds, production_of, at, perhaps, nodes, elements, words, declarators, cases, two}
use Rattle.js_tree.specs.Arena.{Arena, empty, node_at}
use Rattle.js_pieces.specs.declared.pieces.Piece.{Piece}
use Rattle.js_pieces.specs.declared.pieces.Piece.TheVariants as piece
use Rattle.js_pieces.specs.declared.pieces.WholeText.{WholeText}
use Rattle.js_pieces.specs.Pieces.{HoldsPiece, HoldsPieces, last}
use Rattle.js_productions.specs.Targets.{target, target_of}
use Rattle.js_expr.specs.declared.trees.Trees.{Trees}
use Rattle.js_expr.specs.Trees.{HoldsTrees, IsRead}

read_empty : IsRead empty (λ k. Nil)
read_empty = record {
  as_many = refl;
  names = λ i k e. absurd (none-some k e);
  filled = λ k l. absurd (omega arith);
  functions = λ k p id e f. absurd (none-some p e);
}

pub holds_none : (trees : Trees) → trees.script ≡ empty → trees.pieces ≡ [] → HoldsTrees trees []
holds_none trees e f = record {
  bodies = λ k. Nil;
  read = subst (λ z. IsRead z (λ k. Nil)) (sym e) read_empty;
  holds = subst (λ z. HoldsPieces (λ k. Nil) trees.script.kept z []) (sym f) tt;
}

node_kept : (bodies : ℕ → Tree) (kept : List Kept) (id : NodeId) (t : Tree) → Holds bodies kept (at id) t → (k : Kept) × (slice_get kept id.number ≡ Some k)
node_kept bodies kept id (Made q from to ts) h = (h.0, h.1)
node_kept bodies kept id (Word _) h = absurd h
node_kept bodies kept id Missing h = absurd h
node_kept bodies kept id Nil h = absurd h
node_kept bodies kept id (Cons _ _) h = absurd h

pub node_there : (bodies : ℕ → Tree) (kept : List Kept) (q : Piece) (id : NodeId) (t : Tree) → HoldsPiece bodies kept q t → q ≡ piece.Node id → id.number < length kept
node_there bodies kept q id t h e =
    let (k, there) = node_kept bodies kept id t (subst (λ z. HoldsPiece bodies kept z t) e h) in
    slice_get_within kept id.number k there

node_target : (bodies : ℕ → Tree) (kept : List Kept) (id : NodeId) (t : Tree) (us : List Tree) (n : Node) → Holds bodies kept (at id) t → option_map (λ (k : Kept). k.node) (slice_get kept id.number) ≡ Some n → target_of (t ∷ us) ≡ target (production_of n)
node_target bodies kept id (Made q from to ts) us n (k, there, is, _, _, rest) e =
    ap target (sym is ∙ ap production_of (same_Some k.node n (sym (ap (option_map (λ (k : Kept). k.node)) there) ∙ e)))
node_target bodies kept id (Word _) us n h e = absurd h
node_target bodies kept id Missing us n h e = absurd h
node_target bodies kept id Nil us n h e = absurd h
node_target bodies kept id (Cons _ _) us n h e = absurd h

pub target_at : (bodies : ℕ → Tree) (arena : Arena) (q : Piece) (id : NodeId) (n : Node) (t : Tree) → HoldsPiece bodies arena.kept q t → q ≡ piece.Node id → node_at arena id ≡ Some n → target_of (t ∷ []) ≡ target (production_of n)
target_at bodies arena q id n t h e f = node_target bodies arena.kept id t [] n (subst (λ z. HoldsPiece bodies arena.kept z t) e h) f

pub whole_target : (bodies : ℕ → Tree) (kept : List Kept) (q : Piece) (w : WholeText) (t : Tree) → HoldsPiece bodies kept q t → q ≡ piece.Whole w → target_of (t ∷ []) ≡ target w.production
whole_target bodies kept q w t h e = let (ts, is, held) = subst (λ z. HoldsPiece bodies kept z t) e h in ap (λ z. target_of (z ∷ [])) is

-- what is no node is no target
abbrev pub NoNode : Part → Type 0
NoNode (Part.At i) = ⊥
NoNode (Part.Body k) = ⊥
NoNode _ = Unit {0}

no_target : (bodies : ℕ → Tree) (kept : List Kept) (p : Part) (t : Tree) (us : List Tree) → NoNode p → Holds bodies kept p t → target_of (t ∷ us) ≡ None
no_target bodies kept (Part.At i) t us n h = absurd n
no_target bodies kept (Part.Body k) t us n h = absurd n
no_target bodies kept (Part.Word u) (Made _ _ _ _) us n h = absurd h
no_target bodies kept (Part.Word u) (Word _) us n h = refl
no_target bodies kept (Part.Word u) Missing us n h = absurd h
no_target bodies kept (Part.Word u) Nil us n h = absurd h
no_target bodies kept (Part.Word u) (Cons _ _) us n h = absurd h
no_target bodies kept Part.Missing (Made _ _ _ _) us n h = absurd h
no_target bodies kept Part.Missing (Word _) us n h = absurd h
no_target bodies kept Part.Missing Missing us n h = refl
no_target bodies kept Part.Missing Nil us n h = absurd h
no_target bodies kept Part.Missing (Cons _ _) us n h = absurd h
no_target bodies kept Part.Nil (Made _ _ _ _) us n h = absurd h
no_target bodies kept Part.Nil (Word _) us n h = absurd h
no_target bodies kept Part.Nil Missing us n h = absurd h
no_target bodies kept Part.Nil Nil us n h = refl
no_target bodies kept Part.Nil (Cons _ _) us n h = absurd h
no_target bodies kept (Part.Cons p q) (Made _ _ _ _) us n h = absurd h
no_target bodies kept (Part.Cons p q) (Word _) us n h = absurd h
no_target bodies kept (Part.Cons p q) Missing us n h = absurd h
no_target bodies kept (Part.Cons p q) Nil us n h = absurd h
no_target bodies kept (Part.Cons p q) (Cons _ _) us n h = refl

nodes_none : (ids : List NodeId) → NoNode (nodes ids)
nodes_none [] = tt
nodes_none (id ∷ ids) = tt

elements_none : (ids : List (Option NodeId)) → NoNode (elements ids)
elements_none [] = tt
elements_none (id ∷ ids) = tt

words_none : (us : List (List ℕ)) → NoNode (words us)
words_none [] = tt
words_none (u ∷ us) = tt

declarators_none : (ds : List Declarator) → NoNode (declarators ds)
declarators_none [] = tt
declarators_none (d ∷ ds) = tt

cases_none : (cs : List Case) → NoNode (cases cs)
cases_none [] = tt
cases_none (c ∷ cs) = tt

pub other_target : (bodies : ℕ → Tree) (kept : List Kept) (q : Piece) (t : Tree) → HoldsPiece bodies kept q t → ((id : NodeId) → q ≡ piece.Node id → ⊥) → ((w : WholeText) → q ≡ piece.Whole w → ⊥) → target_of (t ∷ []) ≡ None
other_target bodies kept (piece.Node id) t h n w = absurd (n id refl)
other_target bodies kept (piece.Whole x) t h n w = absurd (w x refl)
other_target bodies kept (piece.Text u) t h n w = no_target bodies kept (Part.Word u) t [] tt h
other_target bodies kept piece.Missing t h n w = no_target bodies kept Part.Missing t [] tt h
other_target bodies kept piece.Empty t h n w = no_target bodies kept Part.Nil t [] tt h
other_target bodies kept (piece.Nodes ids) t h n w = no_target bodies kept (nodes ids) t [] (nodes_none ids) h
other_target bodies kept (piece.Elements ids) t h n w = no_target bodies kept (elements ids) t [] (elements_none ids) h
other_target bodies kept (piece.Words us) t h n w = no_target bodies kept (words us) t [] (words_none us) h
other_target bodies kept (piece.Named d) t h n w = no_target bodies kept (two (Part.Word d.name) (perhaps d.value)) t [] tt h
other_target bodies kept (piece.AllNamed ds) t h n w = no_target bodies kept (declarators ds) t [] (declarators_none ds) h
other_target bodies kept (piece.Case c) t h n w = no_target bodies kept (two (perhaps c.test) (nodes c.statements)) t [] tt h
other_target bodies kept (piece.Cases cs) t h n w = no_target bodies kept (cases cs) t [] (cases_none cs) h
other_target bodies kept (piece.Catch c) t h n w = no_target bodies kept (two (Part.Word c.name) (nodes c.statements)) t [] tt h
other_target bodies kept (piece.Body b) t (ts, e, h) n w = ap (λ z. target_of (z ∷ [])) e

-- the last piece is the last tree
some_piece : {p q : Piece} → Some p ≡ Some q → p ≡ q
some_piece e = cc

first_alone : (t : Tree) (us : List Tree) → target_of (t ∷ us) ≡ target_of (t ∷ [])
first_alone (Made q from to ts) us = refl
first_alone (Word _) us = refl
first_alone Missing us = refl
first_alone Nil us = refl
first_alone (Cons _ _) us = refl

pub last_held : (trees : Trees) (vs : List Tree) (q : Piece) → HoldsTrees trees vs → last trees.pieces ≡ Some q → (bodies : ℕ → Tree) × (t : Tree) × HoldsPiece bodies trees.script.kept q t × (target_of vs ≡ target_of (t ∷ []))
last_held trees vs q h e = (let (t, held, same) = by trees.pieces vs h.holds e in (h.bodies, t, held, same)) where
  by : (ps : List Piece) (vs : List Tree) → HoldsPieces h.bodies trees.script.kept ps vs → last ps ≡ Some q → (t : Tree) × HoldsPiece h.bodies trees.script.kept q t × (target_of vs ≡ target_of (t ∷ []))
  by [] vs g f = cc
  by (p ∷ ps) [] g f = absurd g
  by (p ∷ ps) (t ∷ us) g f = (t, subst (λ z. HoldsPiece h.bodies trees.script.kept z t) (some_piece f) g.0, first_alone t us)

pub none_held : (trees : Trees) (vs : List Tree) → HoldsTrees trees vs → last trees.pieces ≡ None → target_of vs ≡ None
none_held trees vs h e = by trees.pieces vs h.holds e where
  by : (ps : List Piece) (vs : List Tree) → HoldsPieces h.bodies trees.script.kept ps vs → last ps ≡ None → target_of vs ≡ None
  by [] [] g f = refl
  by [] (v ∷ vs) g f = absurd g
  by (p ∷ ps) vs g f = cc
