-- Names (ECMA-262 edition 5.1, 10.2.2.1, 8.7.1, 8.7.2): the nearest scope that has the name, or
-- else the window and its prototypes.
use Rattle.std.specs.Prelude.{ℕ, List, Option, Some, None}
use Rattle.js_value.specs.declared.value.ObjId.{ObjId}
use Rattle.js_value.specs.declared.value.Value.{Value}
use Rattle.js_heap.specs.Chains.{or_else}
use Rattle.js_heap.specs.Scopes.{assign, look_up}
use Rattle.js_heap.specs.World.{World}
use Rattle.js_heap.specs.declared.class.ScopeId.{ScopeId}
use Rattle.js_reference.specs.Errors.{Answer, or_throw}
use Rattle.js_reference.specs.Errors.Answer.{Returns}
use Rattle.js_reference.specs.declared.error.ErrorName.TheVariants.{ReferenceError}
use Rattle.js_reference.specs.Own.{OwnProperties}
use Rattle.js_reference.specs.Properties.{object_property}
use Rattle.js_reference.specs.Puts.{window, write_object}

-- at the top of a text there is no scope
abbrev pub scoped : World → Option ScopeId → List ℕ → Option Value
scoped w None x = None
scoped w (Some s) x = look_up w s x

-- after the nearest scope that has the name gives it the value
abbrev pub assigned : World → Option ScopeId → List ℕ → Value → Option World
assigned w None x v = None
assigned w (Some s) x v = assign w s x v

module _ {H : Type 0} (O : OwnProperties H) where
  -- what the name means, where it is bound
  abbrev pub name_value : World → H → Option ScopeId → List ℕ → Option Value
  name_value w h s x = or_else (scoped w s x) (object_property O w h window x)

  abbrev pub read_name : World → H → Option ScopeId → List ℕ → Answer H
  read_name w h s x = or_throw ReferenceError w h (name_value w h s x)

  -- what is left to do behind the scopes' part of a write: a name that no scope has is the window's
  abbrev pub after_scopes : World → H → List ℕ → Value → Option World → Answer H
  after_scopes w h x v (Some w') = Returns v w' h
  after_scopes w h x v None = write_object O w h window x v

  abbrev pub write_name : World → H → Option ScopeId → List ℕ → Value → Answer H
  write_name w h s x v = after_scopes w h x v (assigned w s x v)

-- the object whose property a write to the name sets
abbrev pub name_owner : World → Option ScopeId → List ℕ → Option ObjId
name_owner w s x = elim (scoped w s x) [ None ↦ Some window | Some v ↦ None ]
