-- What a program declares (ECMA-262 edition 5.1, 10.4.1, 10.5), as properties of the window: its
-- functions, which are written to their names, and then its variables, which add nothing where the
-- window or one of its prototypes has the name by then. A function of a handler's name sets the
-- window's handler, and is no property; a variable of one adds nothing.
use Rattle.std.specs.Prelude.{ℕ, ◌*◌, true, ◌||◌, Bool, List, [], ◌∷◌, None, is_some, length}
use Rattle.std.specs.Prelude.{if◌then◌else◌}
use Rattle.js_value.specs.declared.value.Value.{Value}
use Rattle.js_value.specs.declared.value.Value.TheVariants as value
use Rattle.js_heap.specs.Puts.{put}
use Rattle.js_heap.specs.World.{World}
use Rattle.js_host.specs.Rows.{HostRows}
use Rattle.js_host.specs.declared.call.Order.TheVariants as order
use Rattle.js_reference.specs.Errors.{Answer, next_object, thrown}
use Rattle.js_reference.specs.Errors.Answer.{Returns, Throws}
use Rattle.js_reference.specs.declared.error.ErrorName.TheVariants.{RangeError}
use Rattle.js_reference.specs.Functions.{objects_of_function, with_function}
use Rattle.js_reference.specs.Own.{OwnProperties}
use Rattle.js_reference.specs.Properties.{object_property}
use Rattle.js_reference.specs.Puts.{window, write_object}
use Rattle.js_reference.specs.Room.{objects_fit}
use Rattle.js_tree.specs.Names.{program_scope}
use Rattle.js_tree.specs.declared.node.Declared.{Declared}
use Rattle.js_tree.specs.declared.node.Scope.{Scope}
use Rattle.js_tree.specs.Trees.{Tree}

-- a global function of a handler's name sets the window's handler, by the host's order
abbrev pub window_handler : {H D : Type 0} → HostRows H D → World → H → (name : List ℕ) → Value
    → World × H
window_handler R w h x v = let r = R.order w h (order.Handler window x v) in (r.1, r.2)

-- behind an operation that didn't throw
abbrev pub and_then : {H : Type 0} → Answer H → (World → H → Answer H) → Answer H
and_then (Returns v w h) next = next w h
and_then (Throws v w h) next = Throws v w h

-- own: the host's properties. handler: what a global function of a handler's name does to the
-- window's handler.
module _ {H : Type 0} (O : OwnProperties H)
    (handler : World → H → (name : List ℕ) → Value → World × H) where
  abbrev pub is_handler : World → H → List ℕ → Bool
  is_handler w h x = O.sets_handler w h window x

  abbrev pub of_pair : Value → World × H → Answer H
  of_pair v r = Returns v r.0 r.1

  -- a function is given to its name
  abbrev pub global_function : World → H → List ℕ → Value → Answer H
  global_function w h x f =
      if is_handler w h x then of_pair f (handler w h x f) else write_object O w h window x f

  abbrev pub declare_function : (text : ℕ) → Declared → World → H → Answer H
  declare_function x d w h =
      global_function (with_function w (record { text = x; node = d.at; scope = None })) h d.name
      (value.Ref (next_object w))

  -- its functions, up to the first that throws
  abbrev pub declare_functions : (text : ℕ) → List Declared → World → H → Answer H
  declare_functions x [] w h = Returns value.Undefined w h
  declare_functions x (d ∷ ds) w h = and_then (declare_function x d w h) (declare_functions x ds)

  -- a variable is undefined, where nothing of its name is there
  abbrev pub declare_variable : List ℕ → World → H → World
  declare_variable x w h =
      if is_some (object_property O w h window x) || is_handler w h x then w
      else put w window x value.Undefined true

  abbrev pub declare_variables : List (List ℕ) → World → H → World
  declare_variables [] w h = w
  declare_variables (x ∷ xs) w h = declare_variables xs (declare_variable x w h) h

  abbrev pub declare_names : Scope → (text : ℕ) → World → H → Answer H
  declare_names names x w h =
      and_then (declare_functions x names.functions w h)
      (λ w' h'. Returns value.Undefined (declare_variables names.names w' h') h')

  -- all that a program's statements declare, in the step that reads the text
  abbrev pub declare_program : (text : ℕ) → (statements : Tree) → World → H → Answer H
  declare_program x ss w h =
      let names = program_scope ss in
      if objects_fit w (objects_of_function * length names.functions)
      then declare_names names x w h else thrown RangeError w h
