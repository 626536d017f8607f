use Rattle.std.proofs.Common.{reverse}
use Rattle.js_tree.specs.Walk.{wants}
use Rattle.js_tree.proofs.Walks.{IsWalked}
use Rattle.js_tree.proofs.script.Script.texts_in.Given as goal

abbrev pub invariant-loop : goal.invariant-loop
invariant-loop l = IsWalked (wants l.wanted) l.self l.statements l.found.items (reverse l.stack.items)
