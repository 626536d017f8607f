-- for-in (ECMA-262 edition 5.1, 12.6.4): one step lists the names, and then one for each name that
-- is still there gives it to the variable and enters the body; the one that finds none left
-- finishes.
use Rattle.std.specs.Prelude.{ℕ, List, [], ◌∷◌, Option, Some, None, if◌then◌else◌}
use Rattle.js_value.specs.declared.value.Value.{Value}
use Rattle.js_value.specs.declared.value.Value.TheVariants as value
use Rattle.js_heap.specs.World.{World}
use Rattle.js_heap.specs.declared.class.ScopeId.{ScopeId}
use Rattle.js_reference.specs.Keys.{keys_in}
use Rattle.js_reference.specs.Names.{write_name}
use Rattle.js_reference.specs.Own.{OwnProperties}
use Rattle.js_reference.specs.Properties.{has_property}
use Rattle.js_term.specs.declared.completion.Completion.{Completion}
use Rattle.js_term.specs.declared.completion.Completion.TheVariants.{Break, Continue}
use Rattle.js_term.specs.Operands.{Labels}
use Rattle.js_tree.specs.Trees.{Tree}
use Rattle.js_stmt.specs.Made.{Made, Progress, made}
use Rattle.js_stmt.specs.Made.Progress.{Completes, Finishes, GoesOn}
use Rattle.js_stmt.specs.Rows.StmtRow.{ForInKeys}
use Rattle.js_stmt.specs.Steps.{goes_on, takes}

abbrev pub for_in_row : World → (name : List ℕ) → (body : Tree) → Labels → Option Value
    → Progress
for_in_row w x body labels (Some v) = GoesOn (ForInKeys v (keys_in w v) x body labels) [] []
for_in_row w x body labels None = Finishes

module _ {H : Type 0} (O : OwnProperties H) (w : World) (h : H) where
  -- the names from the first one on that the value still has, itself or along its prototypes
  abbrev pub still_there : Value → List (List ℕ) → List (List ℕ)
  still_there v [] = []
  still_there v (k ∷ ks) = if has_property O w h v k then k ∷ ks else still_there v ks

  module _ (s : Option ScopeId) (v : Value) (x : List ℕ) (body : Tree) (labels : Labels) where
    -- the first name is given to the variable, and the body comes
    abbrev pub for_name : List (List ℕ) → Made H
    for_name [] = made Finishes w h
    for_name (k ∷ ks) =
        goes_on (GoesOn (ForInKeys v ks x body labels) [] (body ∷ []))
        (write_name O w h s x (value.Text k))

    abbrev pub for_in_keys_row : List (List ℕ) → Made H
    for_in_keys_row ks = for_name (still_there v ks)

    -- the step that takes a `continue` goes on to the next name
    abbrev pub for_in_meets : List (List ℕ) → Completion → Made H
    for_in_meets ks (Break label) =
        if takes labels label then made Finishes w h else made (Completes (Break label)) w h
    for_in_meets ks (Continue label) =
        if takes labels label then for_in_keys_row ks else made (Completes (Continue label)) w h
    for_in_meets ks k = made (Completes k) w h
