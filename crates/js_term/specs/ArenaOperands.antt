-- The operands of an arena's node by their numbers: the table of `Operands` for nodes.
use Rattle.std.specs.Prelude.{List, [], ◌∷◌, Option, Some, None, map}
use Rattle.js_value.specs.declared.number.Num.TheVariants.{Whole}
use Rattle.js_value.specs.declared.value.Value.{Value}
use Rattle.js_value.specs.declared.value.Value.TheVariants as value
use Rattle.js_tree.specs.Arena.{Arena, node_at}
use Rattle.js_tree.specs.declared.node.Declarator.{Declarator}
use Rattle.js_tree.specs.declared.node.Entry.{Entry}
use Rattle.js_tree.specs.declared.node.Node.{Node}
use Rattle.js_tree.specs.declared.node.Node.TheVariants as node
use Rattle.js_tree.specs.declared.node.NodeId.{NodeId}
use Rattle.js_tree.specs.declared.production.BinaryOperator.{BinaryOperator}
use Rattle.js_tree.specs.declared.production.UnaryOperator.{UnaryOperator}
use Rattle.js_tree.specs.declared.production.UnaryOperator.TheVariants.{Delete, TypeOf}
use Rattle.js_term.specs.Evaluation.{Evaluation}
use Rattle.js_term.specs.declared.begun.Begun.{Begun}
use Rattle.js_term.specs.declared.begun.Begun.TheVariants as begun
use Rattle.js_term.specs.declared.operands.Operand.{Operand}
use Rattle.js_term.specs.declared.operands.Operand.TheVariants as operand

-- nodes as operands to come
abbrev pub as_operands : List NodeId → List Operand
as_operands ids = map operand.Node ids

-- a literal's value (7.8)
abbrev pub node_literal : Node → Option Value
node_literal node.Null = Some value.Null
node_literal (node.Bool b) = Some (value.Bool b)
node_literal (node.Number z) = Some (value.Num (Whole z))
node_literal (node.Text t) = Some (value.Text t)
node_literal n = None

-- the elements that are no holes
abbrev pub elements_there : List (Option NodeId) → List NodeId
elements_there [] = []
elements_there (Some id ∷ es) = id ∷ elements_there es
elements_there (None ∷ es) = elements_there es

abbrev pub values_of_entries : List Entry → List NodeId
values_of_entries [] = []
values_of_entries (e ∷ es) = e.value ∷ values_of_entries es

abbrev pub first_or : Option NodeId → List NodeId → List NodeId
first_or (Some id) ids = id ∷ []
first_or None ids = ids

-- the first initialiser of a `var`
abbrev pub first_value : List Declarator → List NodeId
first_value [] = []
first_value (d ∷ ds) = first_or d.value (first_value ds)

-- a target's own operands: a member's
abbrev pub target_nodes : Option Node → List NodeId
target_nodes (Some (node.Member e k)) = e ∷ []
target_nodes (Some (node.Index e k)) = e ∷ k ∷ []
target_nodes n = []

-- of a call: those of a callee that is a member, or the callee and the arguments
abbrev pub call_nodes : Option Node → NodeId → List NodeId → List NodeId
call_nodes (Some (node.Member e k)) f xs = e ∷ []
call_nodes (Some (node.Index e k)) f xs = e ∷ k ∷ []
call_nodes n f xs = f ∷ xs

abbrev pub deleted_nodes : Option Node → NodeId → List NodeId
deleted_nodes (Some (node.Member b k)) e = b ∷ []
deleted_nodes (Some (node.Index b k)) e = b ∷ k ∷ []
deleted_nodes n e = e ∷ []

abbrev pub typed_nodes : Option Node → NodeId → List NodeId
typed_nodes (Some (node.Name t)) e = []
typed_nodes n e = e ∷ []

abbrev pub unary_nodes : UnaryOperator → Option Node → NodeId → List NodeId
unary_nodes TypeOf n e = typed_nodes n e
unary_nodes Delete n e = deleted_nodes n e
unary_nodes o n e = e ∷ []

abbrev pub assigned_nodes : Option BinaryOperator → Option Node → NodeId → List NodeId
assigned_nodes None (Some (node.Name t)) v = v ∷ []
assigned_nodes None (Some (node.Member b k)) v = b ∷ v ∷ []
assigned_nodes None (Some (node.Index b k)) v = b ∷ k ∷ v ∷ []
assigned_nodes o n v = target_nodes n

abbrev pub returned_nodes : Option NodeId → List NodeId
returned_nodes (Some e) = e ∷ []
returned_nodes None = []

-- of a statement; none of another node
abbrev pub statement_nodes : Node → List NodeId
statement_nodes (node.Block ss) = ss
statement_nodes (node.Var ds) = first_value ds
statement_nodes (node.Expression e) = e ∷ []
statement_nodes (node.If e s t) = e ∷ []
statement_nodes (node.ForIn x e s) = e ∷ []
statement_nodes (node.Return e) = returned_nodes e
statement_nodes (node.Labelled l s) = s ∷ []
statement_nodes (node.Switch e cs) = e ∷ []
statement_nodes (node.Throw e) = e ∷ []
statement_nodes (node.Try t) = t.value.block
statement_nodes (node.Program ss scope) = ss
statement_nodes (node.Handler ss scope) = ss
statement_nodes (node.Body ss scope) = ss
statement_nodes n = []

-- of a node, where this gives the node of a number
abbrev pub node_operands : (NodeId → Option Node) → Node → List NodeId
node_operands f (node.Array es) = elements_there es
node_operands f (node.Object es) = values_of_entries es
node_operands f (node.Member e k) = e ∷ []
node_operands f (node.Index e k) = e ∷ k ∷ []
node_operands f (node.Call e xs) = call_nodes (f e) e xs
node_operands f (node.New e xs) = e ∷ xs
node_operands f (node.Postfix o e) = target_nodes (f e)
node_operands f (node.Prefix o e) = target_nodes (f e)
node_operands f (node.Unary o e) = unary_nodes o (f e) e
node_operands f (node.Binary o a b) = a ∷ b ∷ []
node_operands f (node.And a b) = a ∷ []
node_operands f (node.Or a b) = a ∷ []
node_operands f (node.Conditional a b c) = a ∷ []
node_operands f (node.Assign o a b) = assigned_nodes o (f a) b
node_operands f (node.Comma a b) = a ∷ []
node_operands f n = statement_nodes n

-- what a node begins as: its value, where it is a literal, else with none of its operands begun
abbrev pub begun_node : (NodeId → Option Node) → Node → Option Value → Begun
begun_node f n (Some v) = begun.Value v
begun_node f n None = begun.Operands (record { done = []; todo = as_operands (node_operands f n) })

abbrev pub begun_at : (NodeId → Option Node) → Option Node → Begun
begun_at f None = begun.Value value.Undefined
begun_at f (Some n) = begun_node f n (node_literal n)

abbrev pub begun_as : Arena → NodeId → Begun
begun_as arena id = begun_at (node_at arena) (node_at arena id)
