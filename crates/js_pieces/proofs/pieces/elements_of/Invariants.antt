use Rattle.std.proofs.Common.{◌≡◌, take}
use Rattle.js_tree.specs.Trees.{elements, nodes}
use Rattle.js_pieces.proofs.pieces.elements_of.Given as goal

abbrev pub invariant-loop-id : goal.invariant-loop-id
invariant-loop-id l = elements l.all ≡ nodes (take l.id-index l.ids)
