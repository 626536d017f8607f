use Rattle.js_tree.proofs.Functions.{IsFound}
use Rattle.js_tree.proofs.script.Script.functions_in.Given as goal

abbrev pub invariant-loop-id : goal.invariant-loop-id
invariant-loop-id l = IsFound l.self l.statements l.id-index l.found.items
