-- How far whole numbers go.
use Rattle.std.specs.Prelude.{ℤ, Bool, nat_lt, unsigned_abs, IsTrue}
use Rattle.mug_text.specs.declared.limits.TheConstants.{SAFE_END}

-- from -(2^53 - 1) to 2^53 - 1
abbrev pub is_safe : ℤ → Bool
is_safe z = nat_lt (unsigned_abs z) SAFE_END

abbrev pub IsSafe : ℤ → Type 0
IsSafe z = IsTrue (is_safe z)
