-- What a change leaves of the nodes (DOM Standard, 4.2.3, "Mutation algorithms").
use Rattle.std.specs.Prelude.{ℕ, zero, suc, ◌==◌, Bool, ◌||◌, not, List, [], ◌∷◌, ◌++◌, Option, Some, None, if◌then◌else◌}
use Rattle.std.specs.List.{filter, list_any}
use Rattle.dom_tree.specs.Nodes.{parent_of, is_text, ancestors}
use Rattle.dom_tree.specs.Node.{DomNode}

-- the list, with the item at this place changed
abbrev pub changed : {X : Type 0} → (X → X) → ℕ → List X → List X
changed f i [] = []
changed f zero (x ∷ xs) = f x ∷ xs
changed f (suc i) (x ∷ xs) = x ∷ changed f i xs

abbrev pub with_parent : Option ℕ → DomNode → DomNode
with_parent parent node = record node { parent = parent }

abbrev pub with_children : (List ℕ → List ℕ) → DomNode → DomNode
with_children f node = record node { children = f node.children }

-- children without this one
abbrev pub without : ℕ → List ℕ → List ℕ
without child children = filter (λ c. not (c == child)) children

-- children with this one behind the others
abbrev pub at_end : ℕ → List ℕ → List ℕ
at_end child children = children ++ child ∷ []

-- children with this one in front of another
abbrev pub put_before : ℕ → ℕ → List ℕ → List ℕ
put_before before child [] = []
put_before before child (c ∷ more) =
    if c == before then child ∷ c ∷ more else c ∷ put_before before child more

-- the parent that a node had has lost it
abbrev pub left_at : ℕ → Option ℕ → List DomNode → List DomNode
left_at child None nodes = nodes
left_at child (Some parent) nodes = changed (with_children (without child)) parent nodes

abbrev pub left : ℕ → List DomNode → List DomNode
left child nodes = left_at child (parent_of nodes child) nodes

-- three nodes are replaced: the old parent has lost the child, the new parent has it at a place,
-- and the child has the new parent
abbrev pub placed : (List ℕ → List ℕ) → ℕ → ℕ → List DomNode → List DomNode
placed place parent child nodes =
    changed (with_parent (Some parent)) child
    (changed (with_children place) parent (left child nodes))

-- "append": the child stands behind all others
abbrev pub appended : ℕ → ℕ → List DomNode → List DomNode
appended parent child nodes = placed (at_end child) parent child nodes

-- "insert before a child": one that is inserted before itself stays where it is
abbrev pub inserted : ℕ → ℕ → ℕ → List DomNode → List DomNode
inserted parent child before nodes =
    if child == before then nodes else placed (put_before before child) parent child nodes

-- "remove": the child has no parent
abbrev pub removed : ℕ → List DomNode → List DomNode
removed child nodes = changed (with_parent None) child (left child nodes)

-- the child can't stand in this parent ("ensure pre-insertion validity", HierarchyRequestError): it
-- is the parent, an ancestor of it or the document, or the parent is a text
abbrev pub would_cycle : List DomNode → ℕ → ℕ → Bool
would_cycle nodes parent child =
    child == parent
    || (list_any (λ x. x == child) (ancestors nodes parent) || (child == 0 || is_text nodes parent))
