use Rattle.std.proofs.Common.{◌≡◌, ◌+◌, length, drop}
use Rattle.js_tokens.specs.Units.{opens}
use Rattle.js_tokens.proofs.units.opens.Given as goal

-- what has been passed stands in both
abbrev pub invariant-loop-byte : goal.invariant-loop-byte
invariant-loop-byte l = record {
  same : opens l.fn.text l.fn.bytes ≡ opens l.text (drop l.byte-index l.bytes);
  passed : length l.fn.text ≡ l.byte-index + length l.text;
}
