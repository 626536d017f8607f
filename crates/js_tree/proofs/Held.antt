-- Trees that an arena holds.
use Rattle.std.proofs.Common.{◌≡◌, ℕ, zero, suc, ◌<◌, List, [], ◌∷◌, ◌++◌, length, Some, refl, sym, ap, subst, ◌∙◌, arith}
use Rattle.std.specs.List.{slice_get}
use Rattle.std.proofs.lemmas.Option.{same_Some, none-some}
use Rattle.js_tree.specs.declared.script.Kept.{Kept}
use Rattle.js_tree.specs.Trees.{Tree, Part, Made, At, Body, Word, Missing, Nil, Cons, Holds, parts, production_of}

pub one_tree : (bodies : ℕ → Tree) (kept : List Kept) (p : Part) (t u : Tree) → Holds bodies kept p t → Holds bodies kept p u → t ≡ u
one_tree bodies kept (At i) (Made p from to ts) (Made q f o us) h g =
    let same : h.0 ≡ g.0 = same_Some h.0 g.0 (sym h.1 ∙ g.1) in
    let inner : ts ≡ us = one_tree bodies kept (parts g.0.node) ts us (subst (λ (k : Kept). Holds bodies kept (parts k.node) ts) same h.5) g.5 in
    λ i. Made ((sym h.2 ∙ ap (λ (k : Kept). production_of k.node) same ∙ g.2) i) ((sym h.3 ∙ ap (λ (k : Kept). k.from) same ∙ g.3) i) ((sym h.4 ∙ ap (λ (k : Kept). k.to) same ∙ g.4) i) (inner i)
one_tree bodies kept (At i) (Made _ _ _ _) (Word _) h g = absurd g
one_tree bodies kept (At i) (Made _ _ _ _) Missing h g = absurd g
one_tree bodies kept (At i) (Made _ _ _ _) Nil h g = absurd g
one_tree bodies kept (At i) (Made _ _ _ _) (Cons _ _) h g = absurd g
one_tree bodies kept (At i) (Word _) u h g = absurd h
one_tree bodies kept (At i) Missing u h g = absurd h
one_tree bodies kept (At i) Nil u h g = absurd h
one_tree bodies kept (At i) (Cons _ _) u h g = absurd h
one_tree bodies kept (Body k) t u h g = sym h ∙ g
one_tree bodies kept (Word s) (Word t) (Word u) h g = ap (λ w. Word w) (sym h ∙ g)
one_tree bodies kept (Word s) (Word t) (Made _ _ _ _) h g = absurd g
one_tree bodies kept (Word s) (Word t) Missing h g = absurd g
one_tree bodies kept (Word s) (Word t) Nil h g = absurd g
one_tree bodies kept (Word s) (Word t) (Cons _ _) h g = absurd g
one_tree bodies kept (Word s) (Made _ _ _ _) u h g = absurd h
one_tree bodies kept (Word s) Missing u h g = absurd h
one_tree bodies kept (Word s) Nil u h g = absurd h
one_tree bodies kept (Word s) (Cons _ _) u h g = absurd h
one_tree bodies kept Missing Missing Missing h g = refl
one_tree bodies kept Missing Missing (Made _ _ _ _) h g = absurd g
one_tree bodies kept Missing Missing (Word _) h g = absurd g
one_tree bodies kept Missing Missing Nil h g = absurd g
one_tree bodies kept Missing Missing (Cons _ _) h g = absurd g
one_tree bodies kept Missing (Made _ _ _ _) u h g = absurd h
one_tree bodies kept Missing (Word _) u h g = absurd h
one_tree bodies kept Missing Nil u h g = absurd h
one_tree bodies kept Missing (Cons _ _) u h g = absurd h
one_tree bodies kept Nil Nil Nil h g = refl
one_tree bodies kept Nil Nil (Made _ _ _ _) h g = absurd g
one_tree bodies kept Nil Nil (Word _) h g = absurd g
one_tree bodies kept Nil Nil Missing h g = absurd g
one_tree bodies kept Nil Nil (Cons _ _) h g = absurd g
one_tree bodies kept Nil (Made _ _ _ _) u h g = absurd h
one_tree bodies kept Nil (Word _) u h g = absurd h
one_tree bodies kept Nil Missing u h g = absurd h
one_tree bodies kept Nil (Cons _ _) u h g = absurd h
one_tree bodies kept (Cons p q) (Cons t s) (Cons u v) h g =
    let front : t ≡ u = one_tree bodies kept p t u h.0 g.0 in
    let back : s ≡ v = one_tree bodies kept q s v h.1 g.1 in
    λ i. Cons (front i) (back i)
one_tree bodies kept (Cons p q) (Cons t s) (Made _ _ _ _) h g = absurd g
one_tree bodies kept (Cons p q) (Cons t s) (Word _) h g = absurd g
one_tree bodies kept (Cons p q) (Cons t s) Missing h g = absurd g
one_tree bodies kept (Cons p q) (Cons t s) Nil h g = absurd g
one_tree bodies kept (Cons p q) (Made _ _ _ _) u h g = absurd h
one_tree bodies kept (Cons p q) (Word _) u h g = absurd h
one_tree bodies kept (Cons p q) Missing u h g = absurd h
one_tree bodies kept (Cons p q) Nil u h g = absurd h

get_front : (kept more : List Kept) (i : ℕ) (k : Kept) → slice_get kept i ≡ Some k → slice_get (kept ++ more) i ≡ Some k
get_front [] more i k h = absurd (none-some k h)
get_front (x ∷ kept) more zero k h = h
get_front (x ∷ kept) more (suc i) k h = get_front kept more i k h

pub kept_tree : (bodies : ℕ → Tree) (kept more : List Kept) (p : Part) (t : Tree) → Holds bodies kept p t → Holds bodies (kept ++ more) p t
kept_tree bodies kept more (At i) (Made p from to ts) h = (h.0, get_front kept more i h.0 h.1, h.2, h.3, h.4, kept_tree bodies kept more (parts h.0.node) ts h.5)
kept_tree bodies kept more (At i) (Word _) h = absurd h
kept_tree bodies kept more (At i) Missing h = absurd h
kept_tree bodies kept more (At i) Nil h = absurd h
kept_tree bodies kept more (At i) (Cons _ _) h = absurd h
kept_tree bodies kept more (Body k) t h = h
kept_tree bodies kept more (Word s) (Word t) h = h
kept_tree bodies kept more (Word s) (Made _ _ _ _) h = absurd h
kept_tree bodies kept more (Word s) Missing h = absurd h
kept_tree bodies kept more (Word s) Nil h = absurd h
kept_tree bodies kept more (Word s) (Cons _ _) h = absurd h
kept_tree bodies kept more Missing Missing h = h
kept_tree bodies kept more Missing (Made _ _ _ _) h = absurd h
kept_tree bodies kept more Missing (Word _) h = absurd h
kept_tree bodies kept more Missing Nil h = absurd h
kept_tree bodies kept more Missing (Cons _ _) h = absurd h
kept_tree bodies kept more Nil Nil h = h
kept_tree bodies kept more Nil (Made _ _ _ _) h = absurd h
kept_tree bodies kept more Nil (Word _) h = absurd h
kept_tree bodies kept more Nil Missing h = absurd h
kept_tree bodies kept more Nil (Cons _ _) h = absurd h
kept_tree bodies kept more (Cons p q) (Cons t u) h = (kept_tree bodies kept more p t h.0, kept_tree bodies kept more q u h.1)
kept_tree bodies kept more (Cons p q) (Made _ _ _ _) h = absurd h
kept_tree bodies kept more (Cons p q) (Word _) h = absurd h
kept_tree bodies kept more (Cons p q) Missing h = absurd h
kept_tree bodies kept more (Cons p q) Nil h = absurd h

pub kept_at : (kept : List Kept) (i : ℕ) → i < length kept → (k : Kept) × (slice_get kept i ≡ Some k)
kept_at [] i h = absurd (omega arith)
kept_at (k ∷ kept) zero h = (k, refl)
kept_at (k ∷ kept) (suc i) h = kept_at kept i (omega arith)
