-- The tree that an arena holds is computed.
use Rattle.std.proofs.Common.{◌≡◌, ℕ, zero, suc, ◌+◌, ◌<◌, ◌≤◌, ◌⊎◌, inl, inr, cond, ltb, List, length, refl, sym, ap, subst, ◌∙◌, arith}
use Rattle.std.proofs.Math.Nat.{eq-or-lt_of_le}
use Rattle.std.proofs.lemmas.Bool.Decides.{nat_tests}
use Rattle.js_tree.specs.declared.script.Kept.{Kept}
use Rattle.js_tree.specs.Trees.{Tree, Part, Holds, parts}
use Rattle.js_tree.specs.Arena.{Arena, IsOrdered, IsWithin, Filled}
use Rattle.js_tree.specs.TreeAt.{part_of, opened, node_to, node_with, body_with, body_to, body_at}
use Rattle.js_tree.proofs.Held.{kept_at}

part_holds : (f bodies : ℕ → Tree) (kept : List Kept) (n count : ℕ) (p : Part) → IsWithin n count p → ((c : ℕ) → c < n → Holds bodies kept (Part.At c) (f c)) → Holds bodies kept p (part_of f bodies p)
part_holds f bodies kept n count (Part.At i) w e = e i w
part_holds f bodies kept n count (Part.Body k) w e = refl
part_holds f bodies kept n count (Part.Word u) w e = refl
part_holds f bodies kept n count Part.Missing w e = tt
part_holds f bodies kept n count Part.Nil w e = tt
part_holds f bodies kept n count (Part.Cons p q) w e = (part_holds f bodies kept n count p w.0 e, part_holds f bodies kept n count q w.1 e)

module _ (bodies : ℕ → Tree) (arena : Arena) (is : IsOrdered arena) where
  -- so many levels are enough
  node_holds : (levels n : ℕ) → n < levels → n < length arena.kept → Holds bodies arena.kept (Part.At n) (node_to arena.kept bodies levels n)
  node_holds zero n l there = absurd (omega arith)
  node_holds (suc levels) n l there =
      let found = kept_at arena.kept n there in
      subst (λ o. Holds bodies arena.kept (Part.At n) (opened (node_to arena.kept bodies levels) bodies o)) (sym found.1) (
        found.0,
        found.1,
        refl,
        refl,
        refl,
        part_holds (node_to arena.kept bodies levels) bodies arena.kept n (length arena.pending) (parts found.0.node) (is.nodes n found.0 found.1)
            (λ c below. node_holds levels c (omega arith) (omega arith)),
      )

  pub part_computed : (p : Part) → IsWithin (length arena.kept) (length arena.pending) p → Holds bodies arena.kept p (part_of (node_with arena.kept bodies) bodies p)
  unfolding node_with
  part_computed p within = part_holds (node_with arena.kept bodies) bodies arena.kept (length arena.kept) (length arena.pending) p within (λ c there. node_holds (suc c) c (omega arith) there)

abbrev size : Tree → ℕ
size (Tree.Made _ _ _ ts) = suc (size ts)
size (Tree.Cons t ts) = suc (size t + size ts)
size _ = 1

-- how many of the first trees, so many, are smaller
smaller : (ℕ → ℕ) → ℕ → ℕ → ℕ
smaller f zero s = 0
smaller f (suc n) s = cond (ltb (f n) s) 1 0 + smaller f n s

place : (k n : ℕ) → k < suc n → (k ≡ n) ⊎ (k < n)
place k n l = eq-or-lt_of_le (omega arith)

few_smaller : (f : ℕ → ℕ) (n s : ℕ) → smaller f n s ≤ n
unfolding smaller
few_smaller f zero s = omega arith
few_smaller f (suc n) s = let rest = few_smaller f n s in grind (arith, nat_tests, rest)

fewer_smaller : (f : ℕ → ℕ) (n s t : ℕ) → s ≤ t → smaller f n s ≤ smaller f n t
unfolding smaller
fewer_smaller f zero s t l = omega arith
fewer_smaller f (suc n) s t l = let rest = fewer_smaller f n s t l in grind (arith, nat_tests, rest)

-- one of this size or more isn't among them
all_but_one : (f : ℕ → ℕ) (n s k : ℕ) → k < n → s ≤ f k → smaller f n s < n
unfolding smaller
all_but_one f zero s k l h = absurd (omega arith)
all_but_one f (suc n) s k l h = elim (place k n l) [
  | inl e ↦ (let few = few_smaller f n s in let last : s ≤ f n = subst (λ m. s ≤ f m) e h in grind (arith, nat_tests, few, last))
  | inr before ↦ (let rest = all_but_one f n s k before h in grind (arith, nat_tests, rest))
]

-- there is one more of those that are smaller than one that is larger
one_more : (f : ℕ → ℕ) (n s t k : ℕ) → k < n → s ≤ f k → f k < t → smaller f n s < smaller f n t
unfolding smaller
one_more f zero s t k l h g = absurd (omega arith)
one_more f (suc n) s t k l h g = elim (place k n l) [
  | inl e ↦ (let rest = fewer_smaller f n s t (omega arith) in let last : s ≤ f n = subst (λ m. s ≤ f m) e h in let under : f n < t = subst (λ m. f m < t) e g in grind (arith, nat_tests, rest, last, under))
  | inr before ↦ (let rest = one_more f n s t k before h g in grind (arith, nat_tests, rest))
]

-- a part is the tree that it is where the bodies in it are, none of which is larger than the whole
part_same : (f bodies : ℕ → Tree) (kept : List Kept) (count : ℕ) (nodes : ℕ → Tree) (p : Part) (n : ℕ) → IsWithin n count p → (t : Tree) → Holds bodies kept p t
    → ((k : ℕ) → k < count → size (bodies k) ≤ size t → f k ≡ bodies k)
    → ((c : ℕ) → c < n → (u : Tree) → Holds bodies kept (Part.At c) u → size u ≤ size t → nodes c ≡ u)
    → part_of nodes f p ≡ t
part_same f bodies kept count nodes (Part.At i) n w t h b e = e i w t h (omega arith)
part_same f bodies kept count nodes (Part.Body k) n w t h b e = b k w (let same : size (bodies k) ≡ size t = ap size h in omega arith) ∙ h
part_same f bodies kept count nodes (Part.Word u) n w (Tree.Word v) h b e = ap Tree.Word h
part_same f bodies kept count nodes (Part.Word u) n w (Tree.Made _ _ _ _) h b e = absurd h
part_same f bodies kept count nodes (Part.Word u) n w Tree.Missing h b e = absurd h
part_same f bodies kept count nodes (Part.Word u) n w Tree.Nil h b e = absurd h
part_same f bodies kept count nodes (Part.Word u) n w (Tree.Cons _ _) h b e = absurd h
part_same f bodies kept count nodes Part.Missing n w Tree.Missing h b e = refl
part_same f bodies kept count nodes Part.Missing n w (Tree.Made _ _ _ _) h b e = absurd h
part_same f bodies kept count nodes Part.Missing n w (Tree.Word _) h b e = absurd h
part_same f bodies kept count nodes Part.Missing n w Tree.Nil h b e = absurd h
part_same f bodies kept count nodes Part.Missing n w (Tree.Cons _ _) h b e = absurd h
part_same f bodies kept count nodes Part.Nil n w Tree.Nil h b e = refl
part_same f bodies kept count nodes Part.Nil n w (Tree.Made _ _ _ _) h b e = absurd h
part_same f bodies kept count nodes Part.Nil n w (Tree.Word _) h b e = absurd h
part_same f bodies kept count nodes Part.Nil n w Tree.Missing h b e = absurd h
part_same f bodies kept count nodes Part.Nil n w (Tree.Cons _ _) h b e = absurd h
part_same f bodies kept count nodes (Part.Cons p q) n w (Tree.Cons t u) h b e =
    let front = part_same f bodies kept count nodes p n w.0 t h.0 (λ k l s. b k l (omega arith)) (λ c l v g s. e c l v g (omega arith)) in
    let back = part_same f bodies kept count nodes q n w.1 u h.1 (λ k l s. b k l (omega arith)) (λ c l v g s. e c l v g (omega arith)) in
    λ i. Tree.Cons (front i) (back i)
part_same f bodies kept count nodes (Part.Cons p q) n w (Tree.Made _ _ _ _) h b e = absurd h
part_same f bodies kept count nodes (Part.Cons p q) n w (Tree.Word _) h b e = absurd h
part_same f bodies kept count nodes (Part.Cons p q) n w Tree.Missing h b e = absurd h
part_same f bodies kept count nodes (Part.Cons p q) n w Tree.Nil h b e = absurd h

module _ (f bodies : ℕ → Tree) (arena : Arena) (is : IsOrdered arena) where
  -- a node is the tree that it is where the smaller bodies are
  node_same : (levels n : ℕ) → n < levels → (t : Tree) → Holds bodies arena.kept (Part.At n) t → ((k : ℕ) → k < length arena.pending → size (bodies k) < size t → f k ≡ bodies k)
      → node_to arena.kept f levels n ≡ t
  node_same zero n l t h b = absurd (omega arith)
  node_same (suc levels) n l (Tree.Made p from to ts) h b =
      let inner = part_same f bodies arena.kept (length arena.pending) (node_to arena.kept f levels) (parts h.0.node) n (is.nodes n h.0 h.1) ts h.5 (λ k l s. b k l (omega arith))
      (λ c below u g s. node_same levels c (omega arith) u g (λ k there less. b k there (omega arith))) in
      ap (opened (node_to arena.kept f levels) f) h.1 ∙ (λ i. Tree.Made (h.2 i) (h.3 i) (h.4 i) (inner i))
  node_same (suc levels) n l (Tree.Word _) h b = absurd h
  node_same (suc levels) n l Tree.Missing h b = absurd h
  node_same (suc levels) n l Tree.Nil h b = absurd h
  node_same (suc levels) n l (Tree.Cons _ _) h b = absurd h

module _ (bodies : ℕ → Tree) (arena : Arena) (is : IsOrdered arena) (filled : Filled arena bodies) where
  -- a body that holds fewer than so many smaller ones is the tree that it is
  body_same : (depth k : ℕ) → k < length arena.pending → smaller (λ j. size (bodies j)) (length arena.pending) (size (bodies k)) < depth → body_to arena depth k ≡ bodies k
  unfolding body_to node_with
  body_same zero k l few = absurd (omega arith)
  body_same (suc depth) k l few =
      let whole = filled k l in
      ap (body_with arena.kept (body_to arena depth)) whole.1
      ∙ node_same (body_to arena depth) bodies arena is (suc whole.0.number) whole.0.number (omega arith) (bodies k) whole.2
      (λ j l' s. body_same depth j l' (let less = one_more (λ j. size (bodies j)) (length arena.pending) (size (bodies j)) (size (bodies k)) j l' (omega arith) s in omega (arith, less)))

  pub body_computed : (k : ℕ) → k < length arena.pending → body_at arena k ≡ bodies k
  body_computed k l = body_same (length arena.pending) k l (all_but_one (λ j. size (bodies j)) (length arena.pending) (size (bodies k)) k l (omega arith))
