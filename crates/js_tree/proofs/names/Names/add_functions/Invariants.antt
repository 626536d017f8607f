use Rattle.std.proofs.Common.{◌≡◌, drop}
use Rattle.js_tree.specs.Names.{joined, names_of}
use Rattle.js_tree.proofs.names.Names.add_functions.Given as goal

abbrev pub invariant-loop-function : goal.invariant-loop-function
invariant-loop-function l = joined l.self (names_of (drop l.function-index l.functions)) ≡ joined l.initial.self (names_of l.functions)
