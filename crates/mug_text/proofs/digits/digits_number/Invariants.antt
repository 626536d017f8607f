-- The units so far are digits, and the value is theirs, or the limit.
use Rattle.std.proofs.Common.{◌≡◌, ◌^◌, min, true, nat_lt, take}
use Rattle.std.specs.List.{list_all}
use Rattle.mug_text.specs.Digits.{digit, digits_value}
use Rattle.mug_text.proofs.digits.digits_number.Given as goal

abbrev pub invariant-loop-unit : goal.invariant-loop-unit
invariant-loop-unit l = record {
  digits : list_all (λ u. nat_lt (digit u) l.base) (take l.unit-index l.units) ≡ true;
  is : l.value ≡ min (digits_value l.base (take l.unit-index l.units)) (2 ^ 53);
}
