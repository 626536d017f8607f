-- Nodes have no texts of their own in lists.
use Rattle.std.proofs.Common.{◌≡◌, Bool, true, false, if◌then◌else◌, List, [], ◌∷◌, ◌++◌, Option, Some, None, refl, sym, ap, ◌∙◌, append_assoc}
use Rattle.std.proofs.lemmas.List.{append-nil}
use Rattle.js_tree.specs.declared.node.NodeId.{NodeId}
use Rattle.js_tree.specs.declared.walk.Item.{Item}
use Rattle.js_tree.specs.declared.walk.Item.TheVariants as item
use Rattle.js_tree.specs.Trees.{nodes, at_last}
use Rattle.js_tree.specs.declared.node.Node.{Node}
use Rattle.js_tree.specs.declared.walk.Wanted.{Wanted}
use Rattle.js_tree.specs.Walk.{inside, inside_expression, inside_statement, is_statement, items_in}

pub nodes_same : (here : Bool) (ids : List NodeId) → items_in here (nodes ids) ≡ items_in false (nodes ids)
nodes_same here [] = refl
nodes_same here (id ∷ ids) = ap (λ items. item.At id ∷ items) (nodes_same here ids)

pub last_same : (here : Bool) (ids : Option (List NodeId)) → items_in here (at_last ids) ≡ items_in false (at_last ids)
last_same here None = refl
last_same here (Some ids) = nodes_same here ids

pub catch_pushed : (here : Bool) (name : List Item) (ids : List NodeId) (mid old : List Item) → mid ≡ items_in false (nodes ids) ++ old
    → (name ++ []) ++ mid ≡ (name ++ (items_in here (nodes ids) ++ [])) ++ old
catch_pushed here name ids mid old e =
    ap (λ l. (name ++ []) ++ l) e ∙ ap (λ l. (name ++ []) ++ (l ++ old)) (sym (nodes_same here ids)) ∙ simp (append_assoc, append-nil)

pub try_pushed : (here : Bool) (block : List NodeId) (caught : List Item) (finally : Option (List NodeId)) (mid next old : List Item)
    → mid ≡ items_in false (at_last finally) ++ old → next ≡ caught ++ mid
    → items_in false (nodes block) ++ next ≡ (items_in here (nodes block) ++ (caught ++ (items_in here (at_last finally) ++ []))) ++ old
try_pushed here block caught finally mid next old e f =
    ap (λ l. items_in false (nodes block) ++ l) (f ∙ ap (λ l. caught ++ l) (e ∙ ap (λ l. l ++ old) (sym (last_same here finally))))
    ∙ ap (λ l. l ++ (caught ++ (items_in here (at_last finally) ++ old))) (sym (nodes_same here block))
    ∙ simp (append_assoc, append-nil)

-- a node is a statement or an expression
parted : (b : Bool) (items old : List Item) → (if b then [] else items) ++ ((if b then items else []) ++ old) ≡ items ++ old
parted true items old = refl
parted false items old = refl

pub inside_parts : (w : Wanted) (n : Node) (old : List Item) → inside_expression w n ++ (inside_statement w n ++ old) ≡ inside w n ++ old
inside_parts w n old = parted (is_statement n) (inside w n) old
