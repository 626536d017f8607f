-- What was taken off is the parts of a node.
use Rattle.std.proofs.Common.{◌≡◌, ℕ, Bool, true, false, List, [], ◌∷◌, length, Option, Some, Result, IfOk, refl, sym, subst, ◌∙◌, ap}
use Rattle.mug_text.specs.declared.memory.NoMemory.{NoMemory}
use Rattle.js_tree.specs.declared.node.Guarded.{Guarded}
use Rattle.js_tree.specs.declared.node.Node.{Node}
use Rattle.js_tree.specs.declared.node.Node.TheVariants as node
use Rattle.js_tree.specs.declared.production.Production.{Production}
use Rattle.js_tree.specs.declared.script.Kept.{Kept}
use Rattle.js_tree.specs.Trees.{Tree, Cons, Part, parts, production_of, Holds, nodes, caught, at_last}
use Rattle.js_grammar.specs.inner.Sorts.{Sort, is_of, without, chosen, onto, parts_of}
use Rattle.js_grammar.specs.Derivations.{grouped}
use Rattle.js_pieces.specs.declared.pieces.Piece.{Piece}
use Rattle.js_pieces.specs.Pieces.{HoldsPiece, HoldsPieces, sort_of, sorts, LastIs, Fits, Takes, TakesAll}
use Rattle.js_pieces.specs.Nodes.{IsPlain, Makes, parts_back}

-- the parts as one, before some that are taken already
abbrev pub gathered : List Part → Part → Part
gathered [] p = p
gathered (q ∷ qs) p = gathered qs (Part.Cons q p)

-- these are the parts and the rest of the pieces
abbrev pub AreTaken : (ℕ → Tree) → List Kept → Part → List Piece → Tree × List Tree → Type 0
AreTaken bodies kept p ps (t, ts) = Holds bodies kept p t × HoldsPieces bodies kept ps ts

first_held : (bodies : ℕ → Tree) (kept : List Kept) (q : Piece) (qs : List Piece) (vs : List Tree) → HoldsPieces bodies kept (q ∷ qs) vs →
    (u : Tree) × (us : List Tree) × (vs ≡ u ∷ us) × HoldsPiece bodies kept q u × HoldsPieces bodies kept qs us
first_held bodies kept q qs [] h = absurd h
first_held bodies kept q qs (u ∷ us) (g, h) = (u, us, refl, g, h)

pub taken : (bodies : ℕ → Tree) (kept : List Kept) (qs : List Part) (old new : List Piece) (p : Part) (t : Tree) (vs : List Tree) → TakesAll old new qs → Holds bodies kept p t → HoldsPieces bodies kept old vs →
    AreTaken bodies kept (gathered qs p) new (grouped (length qs) t vs)
taken bodies kept [] old new p t vs e h g = (h, subst (λ z. HoldsPieces bodies kept z vs) e g)
taken bodies kept (q ∷ qs) old new p t vs (mid, (x, e, is), more) h g =
    let (u, us, same, k, l) = first_held bodies kept x mid vs (subst (λ z. HoldsPieces bodies kept z vs) e g) in
    subst (λ z. AreTaken bodies kept (gathered (q ∷ qs) p) new (grouped (length (q ∷ qs)) t z)) (sym same)
    (taken bodies kept qs mid new (Part.Cons q p) (Cons u t) us more (is bodies kept u k, h) l)

-- the first of the sorts is that of the last piece, and the others fit what is behind it
chosen_is : (b : Bool) (o : Option (List Sort)) (rest : List Sort) → chosen b o ≡ Some rest → (b ≡ true) × (o ≡ Some rest)
chosen_is true o rest e = (refl, e)
chosen_is false o rest e = cc

pub last_fits : (d : Sort) (ds : List Sort) (ps : List Piece) → Fits (d ∷ ds) ps → LastIs d ps
last_fits d ds [] (rest, e) = cc
last_fits d ds (q ∷ qs) (rest, e) = (chosen_is (is_of (sort_of q) d) (without ds (sorts qs)) rest e).0

pub behind_fits : (d : Sort) (ds : List Sort) (q : Piece) (old new : List Piece) → Fits (d ∷ ds) old → old ≡ q ∷ new → Fits ds new
behind_fits d ds q old new (rest, e) is =
    (rest, (chosen_is (is_of (sort_of q) d) (without ds (sorts new)) rest (sym (ap (λ z. without (d ∷ ds) (sorts z)) is) ∙ e)).1)

pub others_fit : (d : Sort) (ds : List Sort) (old new : List Piece) (part : Part) → Fits (d ∷ ds) old → Takes old new part → Fits ds new
others_fit d ds old new part h (q, is, _) = behind_fits d ds q old new h is

-- the parts of a node are those that it was made of
pub parts_gathered : (n : Node) → IsPlain (production_of n) → parts n ≡ gathered (parts_back n) Part.Nil
parts_gathered (node.Function h b) p = absurd p
parts_gathered (node.Declaration h b) p = absurd p
parts_gathered (node.Program ss h) p = absurd p
parts_gathered (node.Handler ss h) p = absurd p
parts_gathered (node.Body ss h) p = absurd p
parts_gathered _ p = refl

-- the same of a production by an equation
pub fits_as : {p q : Production} (old : List Piece) → p ≡ q → Fits (onto (parts_of p) []) old → Fits (onto (parts_of q) []) old
fits_as old e h = subst (λ z. Fits (onto (parts_of z) []) old) e h

pub makes_as : {p q : Production} (n : Node) (old new : List Piece) → p ≡ q → Makes q old n new → Makes p old n new
makes_as n old new e h = subst (λ z. Makes z old n new) (sym e) h

pub makes_if : {p q : Production} (r : Result Node NoMemory) (old new : List Piece) → p ≡ q → IfOk r (λ n. Makes q old n new) → IfOk r (λ n. Makes p old n new)
makes_if r old new e h = subst (λ z. IfOk r (λ n. Makes z old n new)) (sym e) h

-- the parts of a `try`
pub tried : (g h : Guarded) (old mid late new : List Piece) → g ≡ h → Takes old mid (at_last h.finally) → Takes mid late (caught h.catch) → Takes late new (nodes h.block) →
    TakesAll old new (at_last g.finally ∷ caught g.catch ∷ nodes g.block ∷ [])
tried g h old mid late new e a b c =
    subst (λ (z : Guarded). TakesAll old new (at_last z.finally ∷ caught z.catch ∷ nodes z.block ∷ [])) (sym e) (mid, a, (late, b, (new, c, refl)))
