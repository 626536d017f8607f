use Rattle.std.proofs.Common.{◌≡◌, ◌+◌, drop, nat_lt}
use Rattle.std.specs.Char.{digit_value}
use Rattle.std.specs.List.{prefix_len}
use Rattle.html_profile.proofs.plain.digits_of.Given as goal

abbrev pub invariant-loop-index : goal.invariant-loop-index
invariant-loop-index l = prefix_len (λ c. nat_lt (digit_value c) l.base) l.text ≡ l.index + prefix_len (λ c. nat_lt (digit_value c) l.base) (drop l.index l.text)
