use Rattle.std.proofs.Common.{◌≡◌, ◌+◌, length, drop}
use Rattle.html_profile.specs.Marks.{opens_lowered}
use Rattle.html_profile.proofs.mark.opens_lowered.Given as goal

-- what has been passed stands in both
abbrev pub invariant-loop-byte : goal.invariant-loop-byte
invariant-loop-byte l = record {
  same : opens_lowered l.fn.text l.fn.bytes ≡ opens_lowered l.text (drop l.byte-index l.bytes);
  passed : length l.fn.text ≡ l.byte-index + length l.text;
}
