-- A call of a page's function (ECMA-262 edition 5.1, 10.4.3, 10.5, 10.6, 13.2.1, 13.2.2): its
-- objects, its scope, and its body. The objects are made in this order: that of `new`, the declared
-- functions, `arguments`.
use Rattle.std.specs.Prelude.{ℕ, suc, ◌+◌, ◌*◌, Bool, true, false, ◌&&◌, List, [], ◌∷◌, Option}
use Rattle.std.specs.Prelude.{Some, None, codes, decimal, length, pos, if◌then◌else◌}
use Rattle.std.specs.Option.{option_and_then, option_map_or}
use Rattle.js_value.specs.declared.number.Num.TheVariants.{Whole}
use Rattle.js_value.specs.declared.value.NativeId.{NativeId}
use Rattle.js_value.specs.declared.value.ObjId.{ObjId}
use Rattle.js_value.specs.declared.value.Value.{Value}
use Rattle.js_value.specs.declared.value.Value.TheVariants as value
use Rattle.js_ops.specs.Convert.{is_missing}
use Rattle.js_heap.specs.Objects.{with_object}
use Rattle.js_heap.specs.Puts.{put}
use Rattle.js_heap.specs.Scopes.{declare, with_scope}
use Rattle.js_heap.specs.World.{World}
use Rattle.js_heap.specs.declared.class.Class.TheVariants as class
use Rattle.js_heap.specs.declared.class.Code.{Code}
use Rattle.js_heap.specs.declared.class.ScopeId.{ScopeId}
use Rattle.js_heap.specs.declared.root.Root.TheVariants as root
use Rattle.js_reference.specs.Callables.{as_object, native_of}
use Rattle.js_reference.specs.Errors.{next_object, root_object}
use Rattle.js_reference.specs.declared.error.ErrorName.TheVariants.{RangeError}
use Rattle.js_reference.specs.Functions.{objects_of_function, with_function}
use Rattle.js_reference.specs.Own.{OwnProperties}
use Rattle.js_reference.specs.Properties.{property}
use Rattle.js_reference.specs.Puts.{window}
use Rattle.js_reference.specs.Room.{objects_fit, scopes_fit}
use Rattle.js_term.specs.Operands.{listed}
use Rattle.js_tree.specs.Names.{arguments, call_scope}
use Rattle.js_tree.specs.declared.node.Declared.{Declared}
use Rattle.js_tree.specs.declared.node.Scope.{Scope}
use Rattle.js_tree.specs.declared.production.Production.TheVariants as production
use Rattle.js_tree.specs.Trees.{Tree}
use Rattle.js_tree.specs.Trees.Tree.{Word}
use Rattle.js_stmt.specs.Made.{Made, made}
use Rattle.js_stmt.specs.Made.Progress.{GoesOn}
use Rattle.js_stmt.specs.Rows.StmtRow.{Body}
use Rattle.js_stmt.specs.Steps.{throws}
use Rattle.js_stmt.specs.Syntax.{word_in}

-- what a function is made of: its own name, where it is a named function expression, its
-- parameters, and the statements of its body
pub record Function : Type 0 where
  pub own : Option (List ℕ)
  pub parameters : List (List ℕ)
  pub statements : Tree

abbrev pub words_in : Tree → List (List ℕ)
words_in (Tree.Cons (Word x) ts) = x ∷ words_in ts
words_in t = []

abbrev pub statements_in : (body : Tree) → Tree
statements_in (Tree.Made production.Body u v (Tree.Cons ss r)) = ss
statements_in t = Tree.Nil

-- a handler's text is the body of a function of `event`
abbrev pub function_in : Tree → Function
function_in (Tree.Made production.Function u v (Tree.Cons x (Tree.Cons xs (Tree.Cons b r)))) =
    record { own = word_in x; parameters = words_in xs; statements = statements_in b }
function_in (Tree.Made production.Declaration u v (Tree.Cons x (Tree.Cons xs (Tree.Cons b r)))) =
    record { own = None; parameters = words_in xs; statements = statements_in b }
function_in (Tree.Made production.Handler u v (Tree.Cons ss r)) =
    record { own = None; parameters = codes "event" ∷ []; statements = ss }
function_in t = record { own = None; parameters = []; statements = Tree.Nil }

-- the names of its scope
abbrev pub scope_of : Function → Scope
scope_of f = call_scope f.parameters f.own f.statements

-- each name is there from the start, and undefined (10.5, step 8)
abbrev pub with_names : ScopeId → List (List ℕ) → World → World
with_names s [] w = w
with_names s (x ∷ xs) w = with_names s xs (declare w s x value.Undefined)

-- the parameters are the arguments, and a later one of a name counts (10.5, step 4)
abbrev pub with_parameters : ScopeId → List (List ℕ) → (values : List Value) → World → World
with_parameters s [] vs w = w
with_parameters s (x ∷ xs) [] w = with_parameters s xs [] (declare w s x value.Undefined)
with_parameters s (x ∷ xs) (v ∷ vs) w = with_parameters s xs vs (declare w s x v)

-- the declared functions, of which a later one of a name counts (10.5, step 5)
abbrev pub with_functions : (text : ℕ) → ScopeId → List Declared → World → World
with_functions x s [] w = w
with_functions x s (d ∷ ds) w =
    with_functions x s ds
    (declare (with_function w (record { text = x; node = d.at; scope = Some s })) s d.name
    (value.Ref (next_object w)))

-- the arguments at their indices, from one on, and then their number (10.6)
abbrev pub with_indices : ObjId → ℕ → List Value → World → World
with_indices o i [] w = put w o (codes "length") (value.Num (Whole (pos i))) false
with_indices o i (v ∷ vs) w = with_indices o (suc i) vs (put w o (decimal i) v true)

abbrev pub with_arguments_object : List Value → World → World
with_arguments_object vs w =
    with_indices (next_object w) 0 vs
    (with_object w class.Arguments (Some (root_object root.ObjectPrototype)))

-- 10.5, step 7
abbrev pub with_arguments : Bool → ScopeId → List Value → World → World
with_arguments true s vs w =
    declare (with_arguments_object vs w) s arguments (value.Ref (next_object w))
with_arguments false s vs w = w

-- the function's own name means the function (13)
abbrev pub with_own_name : Bool → ScopeId → (own : Option (List ℕ)) → (callee : Value) → World
    → World
with_own_name true s (Some x) v w = declare w s x v
with_own_name b s x v w = w

-- the world with the scope of a call in it, which has these names
abbrev pub with_declared : Scope → Code → (own : Option (List ℕ)) → (parameters : List (List ℕ))
    → (callee : Value) → (arguments : List Value) → ScopeId → World → World
with_declared names code own parameters callee vs s w =
    with_own_name names.has_own_name s own callee
    (with_arguments names.has_arguments s vs
    (with_functions code.text s names.functions
    (with_parameters s parameters vs
    (with_names s names.names
    (with_scope w code.scope)))))

abbrev pub with_call_scope : Code → Function → (callee : Value) → (arguments : List Value)
    → ScopeId → World → World
with_call_scope code f callee vs s w =
    with_declared (scope_of f) code f.own f.parameters callee vs s w

abbrev pub one_if : Bool → ℕ
one_if true = 1
one_if false = 0

-- how many objects a call makes whose scope has these names
abbrev pub objects_with : Scope → (construct : Bool) → ℕ
objects_with names construct =
    one_if construct
    + (objects_of_function * length names.functions + one_if names.has_arguments)

abbrev pub objects_of_call : Function → (construct : Bool) → ℕ
objects_of_call f construct = objects_with (scope_of f) construct

-- undefined and null are the window (10.4.3); other values that are no objects stay as they are
abbrev pub this_of : Value → Value
this_of v = if is_missing v then value.Ref window else v

-- the prototype of what `new` makes, by the function's `prototype`: that, where it is an object and
-- no native function that asks (13.2.2)
abbrev pub prototype_or : (asks : NativeId → Bool) → World → Option ObjId → ObjId
prototype_or asks w (Some o) =
    if option_map_or asks (native_of w (value.Ref o)) false then root_object root.ObjectPrototype
    else o
prototype_or asks w None = root_object root.ObjectPrototype

module _ {H : Type 0} (O : OwnProperties H) (asks : NativeId → Bool) (w : World) (h : H) where
  abbrev pub prototype_by : (callee : Value) → ObjId
  prototype_by f =
      prototype_or asks w (option_and_then as_object (property O w h f (codes "prototype")))

  -- into the body, in the world in which `new` has made its object
  abbrev pub into_body : Code → Function → (callee this : Value) → (made : Option Value)
      → (arguments : List Value) → World → Made H
  into_body code f callee this m vs v =
      let s : ScopeId = record { number = length w.scopes } in
      made
      (GoesOn (Body (record { text = code.text; scope = Some s; this = this }) m) []
      (listed f.statements))
      (with_call_scope code f callee vs s v) h

  -- a call of a function, or a `new` of it, at the function's place
  abbrev pub call_function : Code → Function → (callee : Value) → (construct : Bool)
      → (this : Value) → (arguments : List Value) → Made H
  call_function code f callee construct this vs =
      if objects_fit w (objects_of_call f construct) && scopes_fit w 1
      then (if construct
      then into_body code f callee (value.Ref (next_object w)) (Some (value.Ref (next_object w))) vs
      (with_object w class.Object (Some (prototype_by callee)))
      else into_body code f callee (this_of this) None vs w)
      else throws RangeError w h
