-- The functions that are declared among statements, one statement after another.
use Rattle.std.proofs.Common.{◌≡◌, ℕ, zero, suc, ◌+◌, ◌<◌, ◌≤◌, List, [], ◌∷◌, ◌++◌, length, take, drop, get_or, Some, refl, sym, ap, subst, ◌∙◌, append_assoc, arith}
use Rattle.std.specs.Option.{option_map}
use Rattle.std.proofs.lemmas.Option.{same_Some}
use Rattle.std.proofs.lemmas.List.{append-nil, drop_more, drop_all, take_more}
use Rattle.js_tree.specs.declared.node.NodeId.{NodeId}
use Rattle.js_tree.specs.declared.node.Declared.{Declared}
use Rattle.js_tree.specs.declared.node.Node.{Node}
use Rattle.js_tree.specs.declared.node.Node.TheVariants as node
use Rattle.js_tree.specs.declared.script.Kept.{Kept}
use Rattle.js_tree.specs.Trees.{Tree, Made, Word, Missing, Nil, Cons, Holds, nodes, parts, production_of}
use Rattle.js_tree.specs.Names.{functions_in}
use Rattle.js_tree.specs.Arena.{Arena, IsWithin, node_at, span_at}
use Rattle.js_tree.specs.Walk.{declared_by}

pub within_at : (count bodies : ℕ) (ids : List NodeId) → IsWithin count bodies (nodes ids) → (i : ℕ) (d : NodeId) → i < length ids → (get_or ids i d).number < count
within_at count bodies [] h i d l = absurd (omega arith)
within_at count bodies (id ∷ ids) h zero d l = h.0
within_at count bodies (id ∷ ids) h (suc i) d l = within_at count bodies ids h.1 i d (omega arith)

abbrev declared : List ℕ → ℕ → Declared
declared name from = record { name = name; at = from }

declared_first : (bodies : ℕ → Tree) (kept : List Kept) (n : Node) (from to : ℕ) (ts : Tree) → Holds bodies kept (parts n) ts → (u : Tree)
    → functions_in (Cons (Made (production_of n) from to ts) u) ≡ declared_by n from ++ functions_in u
declared_first bodies kept (node.Declaration head b) from to (Cons (Word w) _) h u = ap (λ w. declared w from ∷ functions_in u) (sym h.0)
declared_first bodies kept (node.Declaration head b) from to (Cons (Made _ _ _ _) _) h u = absurd h.0
declared_first bodies kept (node.Declaration head b) from to (Cons Missing _) h u = absurd h.0
declared_first bodies kept (node.Declaration head b) from to (Cons Nil _) h u = absurd h.0
declared_first bodies kept (node.Declaration head b) from to (Cons (Cons _ _) _) h u = absurd h.0
declared_first bodies kept (node.Declaration head b) from to (Made _ _ _ _) h u = absurd h
declared_first bodies kept (node.Declaration head b) from to (Word _) h u = absurd h
declared_first bodies kept (node.Declaration head b) from to Missing h u = absurd h
declared_first bodies kept (node.Declaration head b) from to Nil h u = absurd h
declared_first bodies kept n from to ts h u = refl

-- the first of some statements, and the others
first_declared : (bodies : ℕ → Tree) (arena : Arena) (id : NodeId) (ids : List NodeId) (n : Node) (from to : ℕ) → node_at arena id ≡ Some n → span_at arena id ≡ Some (from, to)
    → (t : Tree) → Holds bodies arena.kept (nodes (id ∷ ids)) t
    → (u : Tree) × Holds bodies arena.kept (nodes ids) u × (functions_in t ≡ declared_by n from ++ functions_in u)
first_declared bodies arena id ids n from to is span (Cons (Made p f e ts) u) h =
    let there = h.0 in
    let same : n ≡ there.0.node = same_Some n there.0.node (sym is ∙ ap (option_map (λ (k : Kept). k.node)) there.1) in
    let spanned : ◌≡◌ {A = ℕ × ℕ} (from, to) (there.0.from, there.0.to) = same_Some {A = ℕ × ℕ} (from, to) (there.0.from, there.0.to) (sym span ∙ ap (option_map (λ (k : Kept). (k.from, k.to))) there.1) in
    let begins : f ≡ from = sym there.3 ∙ sym (ap (λ (s : ℕ × ℕ). s.0) spanned) in (
      u,
      h.1,
      ap (λ p. functions_in (Cons (Made p f e ts) u)) (sym there.2 ∙ ap production_of (sym same))
          ∙ declared_first bodies arena.kept n f e ts (subst (λ n. Holds bodies arena.kept (parts n) ts) (sym same) there.5) u
          ∙ ap (λ f. declared_by n f ++ functions_in u) begins,
    )
first_declared bodies arena id ids n from to is span (Cons (Word _) u) h = absurd h.0
first_declared bodies arena id ids n from to is span (Cons Missing u) h = absurd h.0
first_declared bodies arena id ids n from to is span (Cons Nil u) h = absurd h.0
first_declared bodies arena id ids n from to is span (Cons (Cons _ _) u) h = absurd h.0
first_declared bodies arena id ids n from to is span (Made _ _ _ _) h = absurd h
first_declared bodies arena id ids n from to is span (Word _) h = absurd h
first_declared bodies arena id ids n from to is span Missing h = absurd h
first_declared bodies arena id ids n from to is span Nil h = absurd h

-- of these statements, the functions of the first ones, so many, have been found
pub record IsFound (arena : Arena) (ids : List NodeId) (i : ℕ) (found : List Declared) : Type 0 where
  pub reads : (bodies : ℕ → Tree) (t : Tree) → Holds bodies arena.kept (nodes ids) t → (u : Tree) × Holds bodies arena.kept (nodes (drop i ids)) u × (functions_in t ≡ found ++ functions_in u)

pub none_found : (arena : Arena) (ids : List NodeId) (found : List Declared) → found ≡ [] → IsFound arena ids 0 found
none_found arena ids found e = record { reads = λ b t h. (t, h, ap (λ l. l ++ functions_in t) (sym e)) }

pub one_found : (arena : Arena) (ids : List NodeId) (i : ℕ) (found : List Declared) → IsFound arena ids i found → (d : NodeId) → i < length ids
    → (n : Node) (from to : ℕ) → node_at arena (get_or ids i d) ≡ Some n → span_at arena (get_or ids i d) ≡ Some (from, to)
    → (next : List Declared) → next ≡ found ++ declared_by n from → IsFound arena ids (i + 1) next
one_found arena ids i found is d l n from to at_id span next e = record {
  reads = λ b t h.
      let had = is.reads b t h in
      let first = first_declared b arena (get_or ids i d) (drop (i + 1) ids) n from to at_id span had.0 (subst (λ ids. Holds b arena.kept (nodes ids) had.0) (drop_more ids i d l) had.1) in (
        first.0,
        first.1,
        had.2 ∙ ap (λ l. found ++ l) first.2 ∙ sym (append_assoc found (declared_by n from) (functions_in first.0)) ∙ ap (λ l. l ++ functions_in first.0) (sym e),
      );
}

no_functions : (bodies : ℕ → Tree) (kept : List Kept) (t : Tree) → Holds bodies kept Nil t → functions_in t ≡ []
no_functions bodies kept Nil h = refl
no_functions bodies kept (Made _ _ _ _) h = absurd h
no_functions bodies kept (Word _) h = absurd h
no_functions bodies kept Missing h = absurd h
no_functions bodies kept (Cons _ _) h = absurd h

pub all_found : (arena : Arena) (ids : List NodeId) (i : ℕ) (found : List Declared) → length ids ≤ i → IsFound arena ids i found
    → (bodies : ℕ → Tree) (t : Tree) → Holds bodies arena.kept (nodes ids) t → found ≡ functions_in t
all_found arena ids i found l is b t h =
    let had = is.reads b t h in
    let none = no_functions b arena.kept had.0 (subst (λ ids. Holds b arena.kept (nodes ids) had.0) (drop_all i ids l) had.1) in
    sym (had.2 ∙ ap (λ l. found ++ l) none ∙ append-nil found)

-- nodes that are there, and one more
pushed_within : (count bodies : ℕ) (ids : List NodeId) (one : NodeId) → IsWithin count bodies (nodes ids) → one.number < count → IsWithin count bodies (nodes (ids ++ one ∷ []))
pushed_within count bodies [] one h l = (l, tt)
pushed_within count bodies (id ∷ ids) one h l = (h.0, pushed_within count bodies ids one h.1 l)

pub within_more : (count bodies : ℕ) (ids : List NodeId) (i : ℕ) (d : NodeId) → i < length ids → IsWithin count bodies (nodes (take i ids)) → (get_or ids i d).number < count
    → IsWithin count bodies (nodes (take (i + 1) ids))
within_more count bodies ids i d l h one = subst (λ ids. IsWithin count bodies (nodes ids)) (sym (take_more ids i d l)) (pushed_within count bodies (take i ids) (get_or ids i d) h one)
