-- How an object becomes a primitive value (ECMA-262 edition 5.1, 9.1, 8.12.8). The conversion is a
-- node of its own, at the place of the node that wants it: its first step calls the first of the
-- methods that is callable, and after each answer one step takes it, where it is primitive, or goes
-- on to the methods behind. Where none is left it throws a TypeError.
use Rattle.std.specs.Prelude.{ℕ, suc, ◌-◌, ◌==◌, Bool, true, false, List, [], ◌∷◌, Option, Some, None, codes, drop, take}
use Rattle.std.specs.Prelude.{unwrap_or, if◌then◌else◌}
use Rattle.js_value.specs.Image.{is_primitive}
use Rattle.js_value.specs.declared.value.NativeId.{NativeId}
use Rattle.js_value.specs.declared.value.Value.{Value}
use Rattle.js_value.specs.declared.value.Value.TheVariants as value
use Rattle.js_ops.specs.Convert.{is_missing}
use Rattle.js_ops.specs.declared.equality.Hint.{Hint}
use Rattle.js_ops.specs.declared.equality.Hint.TheVariants as hint
use Rattle.js_heap.specs.World.{World}
use Rattle.js_reference.specs.Callables.{is_callable, is_date}
use Rattle.js_reference.specs.Errors.{error_value, with_error}
use Rattle.js_reference.specs.Own.{OwnProperties}
use Rattle.js_reference.specs.declared.error.ErrorName.TheVariants.{TypeError}
use Rattle.js_reference.specs.Properties.{property}
use Rattle.js_operands.specs.Made.{Conversion, Made}
use Rattle.js_operands.specs.Made.Conversion.{Fails, Tries}
use Rattle.js_operands.specs.Rows.{ExprRow}
use Rattle.js_operands.specs.Steps.{operand_at, throws}
use Rattle.js_operands.specs.declared.wants.Wanted.{Wanted}
use Rattle.js_operands.specs.declared.wants.Wants.{Wants}
use Rattle.js_operands.specs.declared.wants.Wants.TheVariants as wants
use Rattle.js_operands.specs.declared.row.Method.{Method}
use Rattle.js_operands.specs.declared.row.Method.TheVariants.{ValueOf, ToText}

abbrev pub method_name : Method → List ℕ
method_name ValueOf = codes "valueOf"
method_name ToText = codes "toString"

abbrev pub text_first : List Method
text_first = ToText ∷ ValueOf ∷ []

abbrev pub value_first : List Method
value_first = ValueOf ∷ ToText ∷ []

-- the methods by the hint; without one a date is a text, and any other object a number
abbrev pub methods : Hint → (of_date : Bool) → List Method
methods hint.Text d = text_first
methods hint.Number d = value_first
methods hint.Default d = if d then text_first else value_first

-- the hint by which a value is to be converted, which is so where it is no primitive value
abbrev pub wanted_hint : Option Hint → Value → Option Hint
wanted_hint None v = None
wanted_hint (Some k) v = if is_primitive v then None else Some k

-- the operand at this place, where it is to be converted, and else what comes of the others
abbrev pub wanted_or : Option Hint → ℕ → Option Wanted → Option Wanted
wanted_or None n others = others
wanted_or (Some k) n others = Some (record { place = n; by = k })

-- the first of the operands from a place on that is to be converted, where the function says of each
-- place by which hint an object there is
abbrev pub first_wanted : (ℕ → Option Hint) → ℕ → List Value → Option Wanted
first_wanted wants n [] = None
first_wanted wants n (v ∷ vs) =
    wanted_or (wanted_hint (wants n) v) n (first_wanted wants (suc n) vs)

-- hints at two places, this one and the next
abbrev pub wants_at : ℕ → Option Hint → Option Hint → ℕ → Option Hint
wants_at n j k i = if i == n then j else if i == suc n then k else None

-- what a native wants at a place, called or constructed
abbrev pub NativeWants : Type 0
NativeWants = NativeId → (construct : Bool) → ℕ → Option Hint

abbrev pub native_hint : NativeWants → Option NativeId → (construct : Bool) → ℕ → Option Hint
native_hint of None construct i = None
native_hint of (Some n) construct i = of n construct i

-- The hints of a node's operands: at two places; of a call, behind its callee, of `this` and then of
-- the arguments; of a `new`, of the arguments.
abbrev pub hints : NativeWants → Wants → ℕ → Option Hint
hints of (wants.At n j k) i = wants_at n j k i
hints of (wants.Call f) i = if i == 0 then None else native_hint of f false (i - 1)
hints of (wants.New f) i = if i == 0 then None else native_hint of f true i

-- a key, behind the base, is wanted as a text
abbrev pub key_wanted : ℕ → Option Hint
key_wanted = wants_at 1 (Some hint.Text) None

-- a conversion that fails throws a TypeError, which it has made
abbrev pub failure : World → Conversion
failure w = Fails (error_value w TypeError)

abbrev pub after_conversion : World → Conversion → World
after_conversion w (Fails v) = with_error w TypeError
after_conversion w (Tries v f ms) = w

module _ {H : Type 0} (w : World) (h : H) where
  -- a conversion in the node's place
  abbrev pub converting : Conversion → Made H
  converting k = Made.Converting k (after_conversion w k) h

  -- a conversion of one of the operands of a node of this row, between these values
  abbrev pub converts : ExprRow → (before : List Value) → (behind : List Value) → Conversion
      → Made H
  converts r before behind k = Made.Converts r before k behind (after_conversion w k) h

module _ {H : Type 0} (O : OwnProperties H) (w : World) (h : H) where
  abbrev pub method_of : Value → Method → Value
  method_of v m = unwrap_or (property O w h v (method_name m)) value.Undefined

  -- what is called where the object's property is this one: it itself, where it is callable, and
  -- else what comes of the methods behind
  abbrev pub tried_or : Value → List Method → Value → Conversion → Conversion
  tried_or v ms f others = if is_callable w f then Tries v f ms else others

  -- the first of these methods of the object that is callable is called on it
  abbrev pub conversion : Value → List Method → Conversion
  conversion v [] = failure w
  conversion v (m ∷ ms) = tried_or v ms (method_of v m) (conversion v ms)

  -- the first step of a conversion
  abbrev pub convert : Hint → Value → Conversion
  convert k v = conversion v (methods k (is_date w v))

  -- a conversion that hasn't begun; a primitive value is its own
  abbrev pub convert_row : Hint → List Value → Made H
  convert_row k vs =
      let v : Value = operand_at vs 0 in
      if is_primitive v then Made.Gives v w h else converting w h (convert k v)

  -- what a method of the object has answered
  abbrev pub converting_row : List Method → List Value → Made H
  converting_row ms vs =
      let a : Value = operand_at vs 1 in
      if is_primitive a then Made.Gives a w h else converting w h (conversion (operand_at vs 0) ms)

  abbrev pub prepare : ExprRow → List Value → Made H → Option Wanted → Made H
  prepare r vs made None = made
  prepare r vs made (Some k) =
      converts w h r (take k.place vs) (drop (suc k.place) vs)
      (convert k.by (operand_at vs k.place))

  -- what a node of this row makes over these operands: a conversion of the first that is to be
  -- converted, or, where none is, that
  abbrev pub prepared : ExprRow → (ℕ → Option Hint) → List Value → Made H → Made H
  prepared r wants vs made = prepare r vs made (first_wanted wants 0 vs)

  -- The same of a member whose key is its second operand: a base that is undefined or null throws
  -- before the key is converted.
  abbrev pub keyed : ExprRow → List Value → Made H → Made H
  keyed r vs made =
      if is_missing (operand_at vs 0) then throws TypeError w h else prepared r key_wanted vs made
