-- A number that is in the profile is itself.
use Rattle.std.proofs.Common.{◌≡◌, ℤ, Bool, true, false, Option, Some, None, if◌then◌else◌, refl, sym}
use Rattle.std.proofs.lemmas.Option.{same_Some}
use Rattle.js_value.specs.Number.{in_profile}
use Rattle.js_value.specs.Range.{is_safe}
use Rattle.js_value.specs.declared.number.Num.{Num}
use Rattle.js_value.specs.declared.number.Num.TheVariants.{Whole}

chosen : (b : Bool) (n m : Num) → (if b then Some n else None) ≡ Some m → m ≡ n
chosen true n m e = sym (same_Some n m e)
chosen false n m e = cc

pub profile_same : (z : ℤ) (m : Num) → in_profile (Whole z) ≡ Some m → m ≡ Whole z
profile_same z m e = chosen (is_safe z) (Whole z) m e
