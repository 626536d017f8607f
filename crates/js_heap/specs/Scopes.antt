-- Scopes and their names.
use Rattle.std.specs.Prelude.{ℕ, Bool, true, false, List, [], ◌∷◌, ◌++◌, Option, Some, None, is_some, slice_get, slice_set}
use Rattle.std.specs.Option.{option_map, option_map_or}
use Rattle.js_value.specs.declared.value.Value.{Value}
use Rattle.js_heap.specs.Chains.{chain, first_some}
use Rattle.js_heap.specs.Names.{value_bound, with_binding}
use Rattle.js_heap.specs.World.{Binding, Scope, World}
use Rattle.js_heap.specs.declared.class.ScopeId.{ScopeId}

abbrev pub scope_number : ScopeId → ℕ
scope_number s = s.number

abbrev pub parent_number : Scope → Option ℕ
parent_number s = option_map scope_number s.parent

-- with one more scope
abbrev pub with_scope : World → Option ScopeId → World
with_scope w p = record {
  objects = w.objects;
  scopes = w.scopes ++ record { parent = p; names = [] } ∷ [];
}

-- the names of the scope of this number
abbrev pub names_in : List Scope → ℕ → List Binding
names_in ss n = option_map_or (λ s. s.names) (slice_get ss n) []

-- the value of the name in the first scope along those around that has it
abbrev pub value_along : List Scope → Option ℕ → List ℕ → Option Value
value_along ss p x = first_some (λ n. value_bound x (names_in ss n)) (chain parent_number ss p)

abbrev pub number_if : Bool → ℕ → Option ℕ
number_if true n = Some n
number_if false n = None

-- the first scope along those around that has the name
abbrev pub holder : List Scope → Option ℕ → List ℕ → Option ℕ
holder ss p x =
    first_some (λ n. number_if (is_some (value_bound x (names_in ss n))) n)
    (chain parent_number ss p)

abbrev pub named_scope : List ℕ → Value → Scope → Scope
named_scope x v s = record { parent = s.parent; names = with_binding x v s.names }

-- after the scope of this number gives the name a value
abbrev pub named_in : List Scope → ℕ → List ℕ → Value → List Scope
named_in ss n x v = option_map_or (λ s. slice_set ss n (named_scope x v s)) (slice_get ss n) ss

abbrev pub with_name : World → ℕ → List ℕ → Value → World
with_name w n x v = record { objects = w.objects; scopes = named_in w.scopes n x v }

-- a name of the scope is given a value (10.2.1.1.2, 10.2.1.1.3)
abbrev pub declare : World → ScopeId → List ℕ → Value → World
declare w s x v = with_name w s.number x v

-- the value of the name in the nearest scope that has it (10.2.2.1)
abbrev pub look_up : World → ScopeId → List ℕ → Option Value
look_up w s x = value_along w.scopes (Some s.number) x

-- after the nearest scope that has the name gives it the value; none where no scope has it
abbrev pub assign : World → ScopeId → List ℕ → Value → Option World
assign w s x v = option_map (λ n. with_name w n x v) (holder w.scopes (Some s.number) x)
