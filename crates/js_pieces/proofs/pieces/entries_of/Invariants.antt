use Rattle.std.proofs.Common.{◌≡◌, take}
use Rattle.js_tree.specs.Trees.{declarators, entries}
use Rattle.js_pieces.proofs.pieces.entries_of.Given as goal

abbrev pub invariant-loop-named : goal.invariant-loop-named
invariant-loop-named l = entries l.all ≡ declarators (take l.named-index l.list)
