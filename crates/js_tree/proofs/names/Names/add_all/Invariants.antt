use Rattle.std.proofs.Common.{◌≡◌, drop}
use Rattle.js_tree.specs.Names.{joined}
use Rattle.js_tree.proofs.names.Names.add_all.Given as goal

abbrev pub invariant-loop-name : goal.invariant-loop-name
invariant-loop-name l = joined l.self (drop l.name-index l.names) ≡ joined l.initial.self l.names
