-- The names of a scope (ECMA-262 edition 5.1, clause 10.5, in a profile).
use Rattle.std.specs.Prelude.{ℕ, Bool, true, false, ◌&&◌, not, Option, Some, None, List, [], ◌∷◌, ◌++◌, codes, option_to_list, if◌then◌else◌}
use Rattle.std.specs.List.{list_any}
use Rattle.std.specs.Str.{bytes_eq}
use Rattle.js_tree.specs.declared.node.Declared.{Declared}
use Rattle.js_tree.specs.declared.node.Scope.{Scope}
use Rattle.js_tree.specs.declared.production.Production.{Production}
use Rattle.js_tree.specs.declared.production.Production.TheVariants as production
use Rattle.js_tree.specs.Trees.{Tree, Made, Word, Missing, Nil, Cons}

abbrev pub is_among : List ℕ → List (List ℕ) → Bool
is_among name names = list_any (bytes_eq name) names

-- the names that aren't there yet go behind, each once
abbrev pub joined : List (List ℕ) → List (List ℕ) → List (List ℕ)
joined names [] = names
joined names (n ∷ ns) = joined (if is_among n names then names else names ++ n ∷ []) ns

-- the texts that stand in a tree as parts of nodes of these productions, from left to right, without those of functions in it
abbrev pub texts_in : (Production → Bool) → Bool → Tree → List (List ℕ)
texts_in of here (Made production.Function _ _ _) = []
texts_in of here (Made production.Declaration _ _ _) = []
texts_in of here (Made p _ _ ts) = texts_in of (of p) ts
texts_in of here (Word t) = if here then t ∷ [] else []
texts_in of here Missing = []
texts_in of here Nil = []
texts_in of here (Cons t ts) = texts_in of here t ++ texts_in of here ts

abbrev pub is_var : Production → Bool
is_var production.Var = true
is_var _ = false

-- where a name is used or made: in expressions and targets, in a `var`, and as what a catch binds
abbrev pub names_variables : Production → Bool
names_variables production.Name = true
names_variables production.Var = true
names_variables production.Try = true
names_variables _ = false

-- the functions that are declared among these statements, each with its first unit
abbrev pub functions_in : Tree → List Declared
functions_in (Cons (Made production.Declaration from _ (Cons (Word name) _)) ss) = record { name = name; at = from } ∷ functions_in ss
functions_in (Cons _ ss) = functions_in ss
functions_in _ = []

abbrev pub names_of : List Declared → List (List ℕ)
names_of [] = []
names_of (d ∷ ds) = d.name ∷ names_of ds

-- their names
abbrev pub function_names : Tree → List (List ℕ)
function_names ss = names_of (functions_in ss)

abbrev pub vars_in : Tree → List (List ℕ)
vars_in ss = texts_in is_var false ss

abbrev pub arguments : List ℕ
arguments = codes "arguments"

abbrev pub names_arguments : Tree → Bool
names_arguments ss = is_among arguments (texts_in names_variables false ss)

-- what a program declares: its functions, and then its variables
abbrev pub program_scope : Tree → Scope
program_scope ss = record { names = joined (joined [] (function_names ss)) (vars_in ss); functions = functions_in ss; has_arguments = false; has_own_name = false }

-- the first names of a call's scope: the parameters, and the functions
abbrev pub called_names : List (List ℕ) → Tree → List (List ℕ)
called_names parameters ss = joined (joined [] parameters) (function_names ss)

-- then `arguments`, where the function's own text names it, and the variables
abbrev pub bound_names : List (List ℕ) → Tree → List (List ℕ)
bound_names parameters ss = joined (joined (called_names parameters ss) (if names_arguments ss then arguments ∷ [] else [])) (vars_in ss)

abbrev pub is_new : List (List ℕ) → List ℕ → Bool
is_new names name = not (is_among name names)

abbrev pub is_own_name : List (List ℕ) → Option (List ℕ) → Bool
is_own_name names None = false
is_own_name names (Some name) = is_new names name

-- The scope of a call. `arguments` is the object where no parameter and no function has that name. The function's own name stands
-- last, and means the function where nothing else has it.
abbrev pub call_scope : List (List ℕ) → Option (List ℕ) → Tree → Scope
call_scope parameters own ss = record {
  names = joined (bound_names parameters ss) (option_to_list own);
  functions = functions_in ss;
  has_arguments = names_arguments ss && is_new (called_names parameters ss) arguments;
  has_own_name = is_own_name (bound_names parameters ss) own;
}
