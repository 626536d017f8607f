-- The rest is to be read, and what was read is no more than an index.
use Rattle.std.proofs.Common.{◌≡◌, ◌<◌, drop}
use Rattle.std.specs.Str.{all_ascii_digits}
use Rattle.mug_text.proofs.Numbers.{read_on}
use Rattle.mug_text.proofs.index.index.Given as goal

abbrev pub invariant-loop-unit : goal.invariant-loop-unit
invariant-loop-unit l = record {
  digits : all_ascii_digits l.units ≡ all_ascii_digits (drop l.unit-index l.units);
  read : read_on 0 l.units ≡ read_on l.value (drop l.unit-index l.units);
  below : l.value < 0xFFFF_FFFF;
}
