-- What a native comes to: its outcome, and the world after it. Array natives see the heap alone: no
-- property that a host holds of an object is read or written.
use Rattle.std.specs.Prelude.{◌≡◌, ℕ, Bool, true, false, Option, nat_le, pos}
use Rattle.std.specs.Option.{option_map_or}
use Rattle.js_value.specs.declared.number.Num.TheVariants.{Whole}
use Rattle.js_value.specs.declared.value.Value.{Value}
use Rattle.js_value.specs.declared.value.Value.TheVariants as value
use Rattle.js_heap.specs.World.{World}
use Rattle.js_host.specs.declared.call.Outcome.{Outcome}
use Rattle.js_host.specs.declared.call.Outcome.TheVariants as outcome
use Rattle.js_reference.specs.Errors.{error_value, with_error}
use Rattle.js_reference.specs.Room.{objects_fit}
use Rattle.js_reference.specs.declared.error.ErrorName.{ErrorName}
use Rattle.js_reference.specs.declared.error.ErrorName.TheVariants.{RangeError}
use Rattle.js_native_array.specs.declared.limits.TheConstants.{INDICES_LIMIT}

abbrev pub Row : Type 0
Row = Outcome × World

-- the native gives a value
abbrev pub gives : Value → World → Row
gives v w = (outcome.Value v, w)

-- the native throws a new error of the name
abbrev pub throws : ErrorName → World → Row
throws e w = (outcome.Throw (error_value w e), with_error w e)

-- the row, where something holds, and else the error
abbrev pub or_throws : ErrorName → World → Bool → Row → Row
or_throws e w true row = row
or_throws e w false row = throws e w

-- the row of what there is, and else the error
abbrev pub of_some : {X : Type 0} → ErrorName → World → Option X → (X → Row) → Row
of_some e w x row = option_map_or row x (throws e w)

-- a row that goes through so many indices; nothing is done where they are too many
abbrev pub within : World → ℕ → Row → Row
within w n row = or_throws RangeError w (nat_le n INDICES_LIMIT) row

-- a row that makes an array; nothing is done where the array doesn't fit
abbrev pub makes : World → Row → Row
makes w row = or_throws RangeError w (objects_fit w 1) row

-- a count as a value
abbrev pub count : ℕ → Value
count n = value.Num (Whole (pos n))

-- a call gave its row's outcome and left its world; where memory ran out nothing is said
abbrev pub RowGives : Row → Outcome → World → Type 0
RowGives row outcome.NoMemory w = Unit {0}
RowGives row o w = row ≡ (o, w)
