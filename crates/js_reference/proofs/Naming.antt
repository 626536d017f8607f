-- A write to a name that no scope has is one to the window.
use Rattle.std.proofs.Common.{◌≡◌, ℕ, List, Bool, true, false, Option, Some, None, MatchBool, ap, sym, ◌∙◌}
use Rattle.js_value.specs.declared.value.ObjId.{ObjId}
use Rattle.js_value.specs.declared.value.Value.{Value}
use Rattle.js_heap.specs.World.{World}
use Rattle.js_heap.specs.declared.class.ScopeId.{ScopeId}
use Rattle.js_reference.specs.Names.{after_scopes, assigned, write_name}
use Rattle.js_reference.specs.Own.{OwnProperties}
use Rattle.js_reference.specs.Puts.{window, write_object}

refused : (P Q : Type 0) (b : Bool) → b ≡ false → MatchBool b P Q → Q
refused P Q true e m = cc
refused P Q false e m = m

pub window_written : {H : Type 0} (O : OwnProperties H) (w w' : World) (h : H) (s : Option ScopeId) (x : List ℕ) (v : Value) (o : ObjId) (b : Bool)
    → b ≡ false → MatchBool b (assigned w s x v ≡ Some w') ((assigned w s x v ≡ None) × (w' ≡ w)) → o ≡ window
    → write_object O w' h o x v ≡ write_name O w h s x v
window_written O w w' h s x v o b e m at =
    let facts = refused (assigned w s x v ≡ Some w') ((assigned w s x v ≡ None) × (w' ≡ w)) b e m in
    ap (λ u. write_object O u h o x v) facts.1 ∙ ap (λ q. write_object O w h q x v) at ∙ sym (ap (after_scopes O w h x v) facts.0)
