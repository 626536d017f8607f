-- Native functions by number: the table's rows, and what they say.
use Rattle.std.specs.Prelude.{ℕ, List, [], ◌∷◌, Bool, true, false, not, Option, Some, None, filter}
use Rattle.std.specs.Prelude.{is_some, map, slice_get, unwrap_or}
use Rattle.std.specs.Option.{option_map, option_and_then}
use Rattle.js_ops.specs.declared.equality.Hint.{Hint}
use Rattle.js_value.specs.declared.value.NativeId.{NativeId}
use Rattle.js_host.specs.declared.call.Kind.{Kind}
use Rattle.js_host.specs.declared.native.Builtin.{Builtin}
use Rattle.js_host.specs.declared.native.Construct.{Construct}
use Rattle.js_host.specs.declared.native.Construct.TheVariants as construct
use Rattle.js_host.specs.declared.native.Native.{Native}
use Rattle.js_host.specs.declared.native.TheConstants.{NATIVES}

-- the table
unfoldable pub natives : List Native
natives = NATIVES

-- the native of this number: that of this place in the table
abbrev pub native_at : ℕ → Option Native
native_at n = slice_get natives n

abbrev pub named_at : ℕ → Option Builtin
named_at n = option_map (λ row. row.name) (native_at n)

-- what the native of this number may ask
abbrev pub asked_by : ℕ → Option Kind
asked_by n = option_and_then (λ row. row.asks) (native_at n)

-- whether the native of this number may ask
abbrev pub asks : ℕ → Bool
asks n = is_some (asked_by n)

-- whether a native throws when it is called so: with `new`, or without
abbrev pub refuses : Construct → (by_new : Bool) → Bool
refuses construct.Never by_new = by_new
refuses construct.Either by_new = false
refuses construct.Only by_new = not by_new

-- with which hint an object is converted that stands as `this`, at position 0, or as an argument,
-- from position 1 on
abbrev pub hint_at : Native → (position : ℕ) → Option Hint
hint_at row n =
    unwrap_or (slice_get (row.this ∷ row.first ∷ row.second ∷ row.third ∷ []) n) row.others

abbrev pub hint_if : Native → (refused : Bool) → (position : ℕ) → Option Hint
hint_if row true n = None
hint_if row false n = hint_at row n

abbrev pub hint_by : Option Native → (by_new : Bool) → (position : ℕ) → Option Hint
hint_by None by_new n = None
hint_by (Some row) by_new n = hint_if row (refuses row.construct by_new) n

-- the same of the native of this number; none where the call throws
abbrev pub wants : NativeId → (by_new : Bool) → (position : ℕ) → Option Hint
wants id by_new n = hint_by (native_at id.number) by_new n

-- the natives whose rows are such, in the table's order
abbrev pub names_where : (Native → Bool) → List Builtin
names_where such = map (λ row. row.name) (filter such natives)

abbrev pub is_only : Construct → Bool
is_only construct.Only = true
is_only c = false

abbrev pub is_either : Construct → Bool
is_either construct.Either = true
is_either c = false
