-- A callable and the value that it is.
use Rattle.std.proofs.Common.{◌≡◌, Some, None, is_some, not, refl, sym, ap, ◌∙◌}
use Rattle.js_value.specs.Callable.{callable_in, callable_value}
use Rattle.js_value.specs.Image.{is_primitive}
use Rattle.js_value.specs.declared.callable.Callable.{Callable}
use Rattle.js_value.specs.declared.callable.Callable.TheVariants as callable
use Rattle.js_value.specs.declared.value.Callee.{Callee}
use Rattle.js_value.specs.declared.value.Callee.TheVariants as callee
use Rattle.js_value.specs.declared.value.Value.{Value}
use Rattle.js_value.specs.declared.value.Value.TheVariants as value

pub callable_in-callable_value : (c : Callable) → callable_in (callable_value c) ≡ Some c
callable_in-callable_value (callable.Ref o) = refl
callable_in-callable_value (callable.Native n) = refl
callable_in-callable_value (callable.Wrap h c) = refl

is-value : (d c : Callable) → Some d ≡ Some c → callable_value c ≡ callable_value d
is-value d c e = let f : d ≡ c = cc in sym (ap callable_value f)

pub callable_value-callable_in : (v : Value) (c : Callable) → callable_in v ≡ Some c → callable_value c ≡ v
callable_value-callable_in value.Undefined c e = cc
callable_value-callable_in value.Null c e = cc
callable_value-callable_in (value.Bool b) c e = cc
callable_value-callable_in (value.Num n) c e = cc
callable_value-callable_in (value.Text t) c e = cc
callable_value-callable_in (value.Ref o) c e = is-value (callable.Ref o) c e
callable_value-callable_in (value.Native n) c e = is-value (callable.Native n) c e
callable_value-callable_in (value.Wrap h k) c e = is-value (callable.Wrap h k) c e

pub is_some-callable_in : (v : Value) → is_some (callable_in v) ≡ not (is_primitive v)
is_some-callable_in value.Undefined = refl
is_some-callable_in value.Null = refl
is_some-callable_in (value.Bool b) = refl
is_some-callable_in (value.Num n) = refl
is_some-callable_in (value.Text t) = refl
is_some-callable_in (value.Ref o) = refl
is_some-callable_in (value.Native n) = refl
is_some-callable_in (value.Wrap h (callee.Ref o)) = refl
is_some-callable_in (value.Wrap h (callee.Native n)) = refl
