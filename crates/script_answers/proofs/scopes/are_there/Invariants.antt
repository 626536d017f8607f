use Rattle.std.proofs.Common.{length, take}
use Rattle.js_tree.specs.Trees.{nodes}
use Rattle.js_tree.specs.Arena.{IsWithin}
use Rattle.script_answers.proofs.scopes.are_there.Given as goal

abbrev pub invariant-loop-id : goal.invariant-loop-id
invariant-loop-id l = IsWithin (length l.script.kept) (length l.script.pending) (nodes (take l.id-index l.ids))
