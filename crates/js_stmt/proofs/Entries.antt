-- Into the phases of statements.
use Rattle.std.proofs.Common.{◌≡◌, [], ◌∷◌, true, Option, Some, None, refl, subst}
use Rattle.js_tree.specs.Arena.{Arena}
use Rattle.js_tree.specs.TreeAt.{perhaps_tree, tree_at}
use Rattle.js_tree.specs.Trees.{Tree, perhaps}
use Rattle.js_tree.specs.declared.node.NodeId.{NodeId}
use Rattle.js_stmt.specs.Loops.{at_start, at_test, at_update}
use Rattle.js_stmt.specs.Made.{Progress}
use Rattle.js_stmt.specs.Made.Progress.{GoesOn}
use Rattle.js_stmt.specs.Parts.{IsHeld, is_node}
use Rattle.js_stmt.specs.Rows.{Loop}
use Rattle.js_stmt.specs.Rows.StmtRow.{LoopStart, LoopTest, LoopUpdate}

pub test_node : (l : Loop) (t : Tree) → is_node t ≡ true → GoesOn (LoopTest l) [] (t ∷ []) ≡ at_test l t
test_node l (Tree.Made p u v ts) e = refl
test_node l t e = cc

pub start_node : (l : Loop) (t : Tree) → is_node t ≡ true
    → GoesOn (LoopStart l) [] (t ∷ []) ≡ at_start l t
start_node l (Tree.Made p u v ts) e = refl
start_node l t e = cc

pub update_node : (l : Loop) (t : Tree) → is_node t ≡ true
    → GoesOn (LoopUpdate l) [] (t ∷ []) ≡ at_update l t
update_node l (Tree.Made p u v ts) e = refl
update_node l t e = cc

-- a part that is there is entered
pub entered : (a : Arena) (at go : Tree → Progress)
    → ((t : Tree) → is_node t ≡ true → go t ≡ at t)
    → (o : Option NodeId) (id : NodeId) → o ≡ Some id → IsHeld a (perhaps o)
    → go (tree_at a id) ≡ at (perhaps_tree a o)
entered a at go f (Some n) id e h =
    let same : n ≡ id = cc in
    subst (λ i. go (tree_at a i) ≡ at (tree_at a n)) same (f (tree_at a n) h)
entered a at go f None id e h = cc

-- one that isn't there is passed
pub passed : (a : Arena) (at : Tree → Progress) (o : Option NodeId) → o ≡ None
    → at Tree.Missing ≡ at (perhaps_tree a o)
passed a at None e = refl
passed a at (Some id) e = cc
