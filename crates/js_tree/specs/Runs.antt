-- What a text keeps that is run (ECMA-262 edition 5.1, clauses 12 and 13, and what 8.7.2 asks of targets, in a profile).
use Rattle.std.specs.Prelude.{◌≡◌, ℕ, ℤ, pos, ◌-◌, Bool, true, false, ◌&&◌, nat_lt, List, [], ◌∷◌, codes, Option, Some, None, length, slice_get}
use Rattle.mug_text.specs.declared.limits.TheConstants.{SAFE_END}
use Rattle.js_tree.specs.declared.node.NodeId.{NodeId}
use Rattle.js_tree.specs.declared.node.Node.{Node}
use Rattle.js_tree.specs.declared.node.Node.TheVariants as node
use Rattle.js_tree.specs.declared.production.UnaryOperator.TheVariants as unary
use Rattle.js_tree.specs.declared.production.Production.{Production}
use Rattle.js_tree.specs.declared.production.Production.TheVariants as production
use Rattle.js_tree.specs.declared.script.Pending.{Pending}
use Rattle.js_tree.specs.Trees.{Tree, Made, Word, Missing, Nil, Cons, nodes}
use Rattle.js_tree.specs.Names.{is_among, call_scope, program_scope}
use Rattle.js_tree.specs.Arena.{Arena, Filled, node_at}
use Rattle.js_tree.specs.TreeAt.{body_at, root_tree, tree_of}

-- what stands around a part, inside of its function
pub record Around : Type 0 where
  -- labels, and those of them that are labels of a loop
  pub labels : List (List ℕ)
  pub loop_labels : List (List ℕ)
  -- a loop or a switch; a loop
  pub is_broken : Bool
  pub is_continued : Bool
  -- a function's body or a handler
  pub is_returned : Bool

abbrev pub nothing : Around
nothing = record { labels = []; loop_labels = []; is_broken = false; is_continued = false; is_returned = false }

abbrev pub in_function : Around
in_function = record nothing { is_returned = true }

abbrev pub joined_labels : List (List ℕ) → List (List ℕ) → List (List ℕ)
joined_labels [] ls = ls
joined_labels (l ∷ front) ls = l ∷ joined_labels front ls

-- a loop with these labels directly in front
abbrev pub in_loop : List (List ℕ) → Around → Around
in_loop front around = record around { loop_labels = joined_labels front around.loop_labels; is_broken = true; is_continued = true }

abbrev pub label_of : Tree → List (List ℕ)
label_of (Cons (Word l) _) = l ∷ []
label_of _ = []

-- what stands around a node's parts, where these labels stand directly in front of it
abbrev pub inside : Production → Tree → List (List ℕ) → Around → Around
inside production.DoWhile ts front around = in_loop front around
inside production.While ts front around = in_loop front around
inside production.For ts front around = in_loop front around
inside production.ForIn ts front around = in_loop front around
inside production.Switch ts front around = record around { is_broken = true }
inside production.Labelled ts front around = record around { labels = joined_labels (label_of ts) around.labels }
inside production.Handler ts front around = in_function
inside production.Body ts front around = in_function
inside _ ts front around = around

-- the labels directly in front of a node's parts
abbrev pub labels_before : Production → Tree → List (List ℕ) → List (List ℕ)
labels_before production.Labelled ts front = joined_labels (label_of ts) front
labels_before _ ts front = []

-- a jump leads somewhere: without a label to what stands around it, with one to the statement that has it
abbrev pub leads : Bool → List (List ℕ) → Tree → Bool
leads is_open labels (Cons Missing Nil) = is_open
leads is_open labels (Cons (Word l) Nil) = is_among l labels
leads is_open labels _ = false

-- what is written to
abbrev pub is_target : Tree → Bool
is_target (Made production.Name _ _ _) = true
is_target (Made production.Member _ _ _) = true
is_target (Made production.Index _ _ _) = true
is_target _ = false

-- what a for-in writes to: a name, or a `var` of one name without a value
abbrev pub is_for_target : Tree → Bool
is_for_target (Made production.Name _ _ _) = true
is_for_target (Made production.Var _ _ (Cons (Cons (Cons (Word _) (Cons Missing Nil)) Nil) Nil)) = true
is_for_target _ = false

-- what is deleted: anything but a bare name
abbrev pub is_deleted : Tree → Bool
is_deleted (Made production.Name _ _ _) = false
is_deleted _ = true

abbrev pub is_body : Tree → Bool
is_body (Made production.Body _ _ _) = true
is_body _ = false

abbrev pub first_is : (Tree → Bool) → Tree → Bool
first_is test (Cons t _) = test t
first_is test _ = false

abbrev pub third_is : (Tree → Bool) → Tree → Bool
third_is test (Cons _ (Cons _ (Cons t Nil))) = test t
third_is test _ = false

-- a number of the profile
abbrev pub is_in_profile : ℤ → Bool
is_in_profile (pos n) = nat_lt n SAFE_END
is_in_profile _ = false

-- a node of this production fits where it stands
abbrev pub fits : Around → Production → Tree → Bool
fits around (production.Number z) ts = is_in_profile z
fits around production.Function ts = third_is is_body ts
fits around production.Declaration ts = third_is is_body ts
fits around (production.Postfix _) ts = first_is is_target ts
fits around (production.Prefix _) ts = first_is is_target ts
fits around (production.Unary unary.Delete) ts = first_is is_deleted ts
fits around (production.Assign _) ts = first_is is_target ts
fits around production.ForIn ts = first_is is_for_target ts
fits around production.Break ts = leads around.is_broken around.labels ts
fits around production.Continue ts = leads around.is_continued around.loop_labels ts
fits around production.Return ts = around.is_returned
fits around _ ts = true

-- so does each node in a tree
abbrev pub all_fit : Around → List (List ℕ) → Tree → Bool
all_fit around front (Made p _ _ ts) = fits around p ts && all_fit (inside p ts front around) (labels_before p ts front) ts
all_fit around front (Cons t ts) = all_fit around front t && all_fit around front ts
all_fit around front _ = true

-- each node of a whole text fits where it stands
abbrev pub is_runnable : Tree → Bool
is_runnable t = all_fit nothing [] t

-- the scope of a function's body, or of a text's own statements
abbrev pub HasScope : Arena → Option Node → Option Node → Type 0
HasScope arena (Some (node.Function h _)) (Some (node.Body ss scope)) = scope.value ≡ call_scope h.value.parameters h.value.name (tree_of arena (nodes ss))
HasScope arena (Some (node.Declaration h _)) (Some (node.Body ss scope)) = scope.value ≡ call_scope h.value.parameters None (tree_of arena (nodes ss))
HasScope arena _ _ = ⊥

-- a handler is a function of the one parameter `event`
abbrev pub RootHasScope : Arena → Option Node → Type 0
RootHasScope arena (Some (node.Program ss scope)) = scope.value ≡ program_scope (tree_of arena (nodes ss))
RootHasScope arena (Some (node.Handler ss scope)) = scope.value ≡ call_scope (codes "event" ∷ []) None (tree_of arena (nodes ss))
RootHasScope arena _ = ⊥

-- A text that is run: every body is read and leads to no end of bodies in it, every node fits where it stands, and the text and every
-- function carry the scope of their own statements.
pub record IsRunnableText (arena : Arena) : Type 0 where
  pub filled : Filled arena (body_at arena)
  pub root : RootHasScope arena (node_at arena (record { number = length arena.kept - 1 }))
  pub runnable : is_runnable (root_tree arena) ≡ true
  pub functions : (k : ℕ) (p : Pending) (id : NodeId) → slice_get arena.pending k ≡ Some p → slice_get arena.filled k ≡ Some (Some id) → HasScope arena (node_at arena p.node) (node_at arena id)
