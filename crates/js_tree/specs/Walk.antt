-- What a walk over a tree finds in a node.
use Rattle.std.specs.Prelude.{ℕ, Bool, true, false, List, [], ◌∷◌, ◌++◌, Option, Some, None, if◌then◌else◌}
use Rattle.js_tree.specs.declared.node.Node.{Node}
use Rattle.js_tree.specs.declared.node.Node.TheVariants as node
use Rattle.js_tree.specs.declared.node.Declared.{Declared}
use Rattle.js_tree.specs.declared.production.Production.{Production}
use Rattle.js_tree.specs.declared.production.Production.TheVariants as production
use Rattle.js_tree.specs.declared.walk.Item.{Item}
use Rattle.js_tree.specs.declared.walk.Item.TheVariants as item
use Rattle.js_tree.specs.declared.walk.Wanted.{Wanted}
use Rattle.js_tree.specs.declared.walk.Wanted.TheVariants.{Vars, Variables}
use Rattle.js_tree.specs.Trees.{Part, At, Word, Nil, Cons, parts, production_of}
use Rattle.js_tree.specs.Names.{is_var, names_variables}
use Rattle.js_tree.specs.Arena.{Arena, node_at}

abbrev pub wants_variables : Wanted → Bool
wants_variables Vars = false
wants_variables Variables = true

-- the texts of a `var` are wanted, or all names of variables
abbrev pub wants : Wanted → Production → Bool
wants wanted production.Name = wants_variables wanted
wants wanted production.Var = true
wants wanted production.Try = wants_variables wanted
wants wanted _ = false

-- the same, as names of scopes are defined by it
abbrev pub test_of : Wanted → Production → Bool
test_of Vars = is_var
test_of Variables = names_variables

-- what a node whose first unit is this declares as a function
abbrev pub declared_by : Node → ℕ → List Declared
declared_by (node.Declaration h _) from = record { name = h.value.name; at = from } ∷ []
declared_by _ from = []

-- the nodes of a part and, where they are wanted, its texts, from left to right
abbrev pub items_in : Bool → Part → List Item
items_in here (At i) = item.At (record { number = i }) ∷ []
items_in here (Word t) = if here then item.Word t ∷ [] else []
items_in here (Cons p q) = items_in here p ++ items_in here q
items_in here _ = []

-- those of a node; functions are not looked into
abbrev pub inside : Wanted → Node → List Item
inside wanted (node.Function _ _) = []
inside wanted (node.Declaration _ _) = []
inside wanted n = items_in (wants wanted (production_of n)) (parts n)

-- statements and what holds them; all other nodes are expressions
abbrev pub is_statement : Node → Bool
is_statement (node.Block _) = true
is_statement (node.Var _) = true
is_statement node.Empty = true
is_statement (node.Expression _) = true
is_statement (node.If _ _ _) = true
is_statement (node.DoWhile _ _) = true
is_statement (node.While _ _) = true
is_statement (node.For _ _ _ _) = true
is_statement (node.ForIn _ _ _) = true
is_statement (node.Continue _) = true
is_statement (node.Break _) = true
is_statement (node.Return _) = true
is_statement (node.Labelled _ _) = true
is_statement (node.Switch _ _) = true
is_statement (node.Throw _) = true
is_statement (node.Try _) = true
is_statement (node.Declaration _ _) = true
is_statement (node.Program _ _) = true
is_statement (node.Handler _ _) = true
is_statement (node.Body _ _) = true
is_statement _ = false

abbrev pub inside_statement : Wanted → Node → List Item
inside_statement wanted n = if is_statement n then inside wanted n else []

abbrev pub inside_expression : Wanted → Node → List Item
inside_expression wanted n = if is_statement n then [] else inside wanted n

abbrev pub inside_in : Wanted → Option Node → List Item
inside_in wanted None = []
inside_in wanted (Some n) = inside wanted n

-- the items that take an item's place, and the text that it is
abbrev pub opened : Wanted → Arena → Item → List Item
opened wanted arena (item.At id) = inside_in wanted (node_at arena id)
opened wanted arena (item.Word _) = []

abbrev pub text_of : Item → List (List ℕ)
text_of (item.At _) = []
text_of (item.Word t) = t ∷ []

-- a list of items as a part
abbrev pub part_of : List Item → Part
part_of [] = Nil
part_of (item.At id ∷ rest) = Cons (At id.number) (part_of rest)
part_of (item.Word t ∷ rest) = Cons (Word t) (part_of rest)
