-- `do`, `while` and `for` (ECMA-262 edition 5.1, 12.6.1 to 12.6.3). The phases are the start, the
-- test, the body and the update, as far as they are there; one step leads into the first phase, and
-- one from each into the next.
use Rattle.std.specs.Prelude.{Bool, false, [], ◌∷◌, Option, Some, None, if◌then◌else◌}
use Rattle.js_value.specs.Image.{to_boolean}
use Rattle.js_value.specs.declared.value.Value.{Value}
use Rattle.js_term.specs.declared.completion.Completion.{Completion}
use Rattle.js_term.specs.declared.completion.Completion.TheVariants.{Break, Continue}
use Rattle.js_tree.specs.Trees.{Tree}
use Rattle.js_tree.specs.Trees.Tree.{Missing}
use Rattle.js_stmt.specs.Made.{Progress}
use Rattle.js_stmt.specs.Made.Progress.{Completes, Finishes, GoesOn}
use Rattle.js_stmt.specs.Rows.{Loop}
use Rattle.js_stmt.specs.Rows.StmtRow.{LoopBody, LoopStart, LoopTest, LoopUpdate}
use Rattle.js_stmt.specs.Steps.{takes}

abbrev pub into_body : Loop → Progress
into_body l = GoesOn (LoopBody l) [] (l.body ∷ [])

-- each of these phases is passed over where its part isn't there
abbrev pub at_test : Loop → Tree → Progress
at_test l Missing = into_body l
at_test l t = GoesOn (LoopTest l) [] (t ∷ [])

abbrev pub into_test : Loop → Progress
into_test l = at_test l l.test

abbrev pub at_start : Loop → Tree → Progress
at_start l Missing = into_test l
at_start l t = GoesOn (LoopStart l) [] (t ∷ [])

abbrev pub into_start : Loop → Progress
into_start l = at_start l l.start

abbrev pub at_update : Loop → Tree → Progress
at_update l Missing = into_test l
at_update l t = GoesOn (LoopUpdate l) [] (t ∷ [])

abbrev pub into_update : Loop → Progress
into_update l = at_update l l.update

-- a test that holds
abbrev pub holds : Option Value → Bool
holds (Some v) = to_boolean v
holds None = false

-- a false test finishes the loop
abbrev pub test_row : Loop → Option Value → Progress
test_row l v = if holds v then into_body l else Finishes

-- a loop's own `break` finishes it, and its own `continue` ends the body
abbrev pub body_meets : Loop → Completion → Progress
body_meets l (Break label) = if takes l.labels label then Finishes else Completes (Break label)
body_meets l (Continue label) =
    if takes l.labels label then into_update l else Completes (Continue label)
body_meets l k = Completes k
