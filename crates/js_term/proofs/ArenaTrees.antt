-- The tree of an arena's node, by one level.
use Rattle.std.proofs.Common.{◌≡◌, ℕ, zero, suc, ◌<◌, List, length, Option, Some, None, slice_get, refl, ap, arith}
use Rattle.js_tree.specs.declared.script.Kept.{Kept}
use Rattle.js_tree.specs.Arena.{Arena, IsOrdered, IsWithin}
use Rattle.js_tree.specs.Trees.{Part, Tree, parts, production_of}
use Rattle.js_tree.specs.TreeAt.{node_to, node_with, opened, part_of}

-- a part is the same tree by nodes that are the same
part-same : (f g bodies : ℕ → Tree) (n count : ℕ) (p : Part) → IsWithin n count p → ((i : ℕ) → i < n → f i ≡ g i)
    → part_of f bodies p ≡ part_of g bodies p
part-same f g bodies n count (Part.At i) w e = e i w
part-same f g bodies n count (Part.Body k) w e = refl
part-same f g bodies n count (Part.Word u) w e = refl
part-same f g bodies n count Part.Missing w e = refl
part-same f g bodies n count Part.Nil w e = refl
part-same f g bodies n count (Part.Cons p q) w e =
    let a = part-same f g bodies n count p w.0 e in
    let b = part-same f g bodies n count q w.1 e in
    cc

module _ (bodies : ℕ → Tree) (arena : Arena) (is : IsOrdered arena) where
  opened-same : (f g : ℕ → Tree) (i : ℕ) (o : Option Kept) → slice_get arena.kept i ≡ o → ((c : ℕ) → c < i → f c ≡ g c)
      → opened f bodies o ≡ opened g bodies o
  opened-same f g i None e h = refl
  opened-same f g i (Some k) e h =
      ap (Tree.Made (production_of k.node) k.from k.to) (part-same f g bodies i (length arena.pending) (parts k.node) (is.nodes i k e) h)

  -- levels enough are as good as more
  levels : (j k i : ℕ) → i < j → i < k → node_to arena.kept bodies j i ≡ node_to arena.kept bodies k i
  levels zero k i a b = absurd (omega (arith, a))
  levels (suc j) zero i a b = absurd (omega (arith, b))
  levels (suc j) (suc k) i a b =
      opened-same (node_to arena.kept bodies j) (node_to arena.kept bodies k) i (slice_get arena.kept i) refl
      (λ c l. levels j k c (omega (arith, a, l)) (omega (arith, b, l)))

  -- a node's tree is made of the trees of its parts
  pub tree-opened : (n : ℕ) → node_with arena.kept bodies n ≡ opened (node_with arena.kept bodies) bodies (slice_get arena.kept n)
  unfolding node_with
  tree-opened n =
      opened-same (node_to arena.kept bodies n) (node_with arena.kept bodies) n (slice_get arena.kept n) refl
      (λ c l. levels n (suc c) c l (omega arith))
