-- What calls in code come to, and the parts of a function, in an arena.
use Rattle.std.specs.Prelude.{◌≡◌, ℕ, List, [], ◌∷◌, ◌++◌, Option, Some, None, codes}
use Rattle.std.specs.Option.{option_copied, option_map}
use Rattle.js_value.specs.declared.value.Value.{Value}
use Rattle.js_heap.specs.Scopes.{scope_number}
use Rattle.js_host.specs.Names.{option_names}
use Rattle.js_term.specs.declared.completion.Completion.TheVariants.{Throw}
use Rattle.js_tree.specs.Arena.{Arena}
use Rattle.js_tree.specs.TreeAt.{tree_of}
use Rattle.js_tree.specs.Trees.{nodes}
use Rattle.js_tree.specs.declared.node.NodeId.{NodeId}
use Rattle.js_stmt.specs.CodeRows.{fresh, operand_trees}
use Rattle.js_stmt.specs.Made.{Progress}
use Rattle.js_stmt.specs.Made.Progress.{Completes, GoesOn}
use Rattle.js_stmt.specs.Rows.StmtRow.{Body}
use Rattle.js_calls.specs.Calls.{Function}
use Rattle.js_calls.specs.declared.function_parts.FunctionParts.{FunctionParts}
use Rattle.js_calls.specs.declared.function_parts.Parameters.{Parameters}
use Rattle.js_calls.specs.declared.function_parts.Parameters.TheVariants as parameters
use Rattle.js_calls.specs.declared.page_calls.Entered.{Entered}
use Rattle.js_calls.specs.declared.page_calls.Entered.TheVariants as entered

abbrev pub parameter_names : Parameters → List (List ℕ)
parameter_names (parameters.Listed ps) = ps.now
parameter_names parameters.Event = codes "event" ∷ []

-- the function that these parts are
abbrev pub function_as : Arena → FunctionParts → Function
function_as a p = record {
  own = option_copied p.own;
  parameters = parameter_names p.parameters;
  statements = tree_of a (nodes p.statements.now);
}

-- what a call comes to
abbrev pub entered_as : Arena → Entered → Progress
entered_as a (entered.Body n c made e) = GoesOn (Body c made) e.done (operand_trees a c e.todo)
entered_as a (entered.Throws v) = Completes (Throw v)

-- the node of the function whose body is entered
abbrev pub Enters : Entered → Option NodeId → Type 0
Enters (entered.Body n c made e) o = o ≡ Some n
Enters (entered.Throws v) o = Unit {0}

-- of an entered body only the statements of its text are to come
abbrev pub EntersParts : Entered → Type 0
EntersParts (entered.Body n c made e) = (ids : List NodeId) × (e ≡ fresh ids)
EntersParts (entered.Throws v) = Unit {0}

-- the values that a call leaves, in front of others
abbrev pub entered_names : Entered → List Value → List Value
entered_names (entered.Body n c made e) vs = c.this ∷ option_names made (e.done ++ vs)
entered_names (entered.Throws v) vs = v ∷ vs

-- the scope that the body runs in
abbrev pub entered_scope : Entered → Option ℕ
entered_scope (entered.Body n c made e) = option_map scope_number c.scope
entered_scope (entered.Throws v) = None
