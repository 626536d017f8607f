-- The names before are behind those.
use Rattle.std.proofs.Common.{◌≡◌, ◌++◌, take}
use Rattle.js_reference.proofs.keys.joined.Given as goal

abbrev pub invariant-loop-name : goal.invariant-loop-name
invariant-loop-name l = l.names ≡ l.fn.names ++ take l.name-index l.name-items
