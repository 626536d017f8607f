-- A host with one native, `console.log`, which keeps its arguments: an instance on which scripts are computed.
use Rattle.std.specs.Prelude.{ℕ, false, List, [], ◌∷◌, ◌++◌, Some, None, codes}
use Rattle.js_value.specs.declared.value.ObjId.{ObjId}
use Rattle.js_value.specs.declared.value.Value.{Value}
use Rattle.js_value.specs.declared.value.Value.TheVariants as value
use Rattle.js_heap.specs.Objects.{with_object}
use Rattle.js_heap.specs.Puts.{put}
use Rattle.js_heap.specs.Roots.{first_world, id_of}
use Rattle.js_heap.specs.World.{World}
use Rattle.js_heap.specs.declared.class.Class.TheVariants as class
use Rattle.js_heap.specs.declared.root.Root.TheVariants as root
use Rattle.js_reference.specs.Errors.{root_object}
use Rattle.js_reference.specs.Own.{OwnProperties}
use Rattle.js_reference.specs.Own.HostWrite.{NotHost}
use Rattle.js_reference.specs.Puts.{window}
use Rattle.js_term.specs.declared.context.Context.{Context}
use Rattle.js_term.specs.Table.Step.{Gives}
use Rattle.js_term.specs.Term.Term.{Stop, Val}
use Rattle.js_tree.specs.Trees.{Tree}
use Rattle.js_rows.specs.Outside.{Outside}

-- the lines of the console
abbrev pub Lines : Type 0
Lines = List (List Value)

-- no forms
pub data NoForm : Type 0 where
  Nothing : NoForm

abbrev native : ℕ → Value
native n = value.Native (record { number = n })

abbrev console_object : ObjId
console_object = id_of 16

-- `console` on the window, with `log`
abbrev pub start : World
start =
    put (put (with_object first_world class.Object (Some (root_object root.ObjectPrototype)))
    console_object (codes "log") (native 0) false)
    window (codes "console") (value.Ref console_object) false

abbrev pub top : Context
top = record { text = 0; scope = None; this = value.Ref window }

abbrev no_properties : OwnProperties Lines
no_properties = record { get = λ w h o x. None; put = λ w h o x v. NotHost; sets_handler = λ w h o x. false }

-- the texts' functions are given
abbrev pub small : (ℕ → Tree) → Outside NoForm Lines
small functions = record {
  own = no_properties;
  wants = λ n construct i. None;
  asks = λ n. false;
  refuses = λ n construct. construct;
  handler = λ w h x v. (w, h);
  function = λ x u. functions u;
  native = λ w h n q. Gives (Val value.Undefined) w (h ++ q.args ∷ []);
  make = λ p c w h f vs. Gives (Val value.Undefined) w h;
  meets = λ p c w h f k. Gives (Stop k) w h;
}
