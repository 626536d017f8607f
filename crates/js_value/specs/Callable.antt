-- What may be called: an object, a native function, or a wrap of one.
use Rattle.std.specs.Prelude.{Option, Some, None}
use Rattle.js_value.specs.declared.callable.Callable.{Callable}
use Rattle.js_value.specs.declared.callable.Callable.TheVariants as callable
use Rattle.js_value.specs.declared.value.Value.{Value}
use Rattle.js_value.specs.declared.value.Value.TheVariants as value

-- the value that it is
abbrev pub callable_value : Callable → Value
callable_value (callable.Ref o) = value.Ref o
callable_value (callable.Native n) = value.Native n
callable_value (callable.Wrap h c) = value.Wrap h c

-- the callable that a value is; none of a primitive value
abbrev pub callable_in : Value → Option Callable
callable_in value.Undefined = None
callable_in value.Null = None
callable_in (value.Bool b) = None
callable_in (value.Num n) = None
callable_in (value.Text t) = None
callable_in (value.Ref o) = Some (callable.Ref o)
callable_in (value.Native n) = Some (callable.Native n)
callable_in (value.Wrap h c) = Some (callable.Wrap h c)
