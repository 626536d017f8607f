-- The values that calls and answers name, in front of others. An object is named by a reference to
-- it.
use Rattle.std.specs.Prelude.{ℕ, List, [], ◌∷◌, ◌++◌, Option, Some, None}
use Rattle.js_value.specs.declared.value.ObjId.{ObjId}
use Rattle.js_value.specs.declared.value.Value.{Value}
use Rattle.js_value.specs.declared.value.Value.TheVariants.{Ref}
use Rattle.js_host.specs.declared.call.Callback.{Callback}
use Rattle.js_host.specs.declared.call.Callback.TheVariants as callback
use Rattle.js_host.specs.declared.call.DispatchAt.{DispatchAt}
use Rattle.js_host.specs.declared.call.HostPut.{HostPut}
use Rattle.js_host.specs.declared.call.HostPut.TheVariants as host_put
use Rattle.js_host.specs.declared.call.NativeCall.{NativeCall}
use Rattle.js_host.specs.declared.call.NextCall.{NextCall}
use Rattle.js_host.specs.declared.call.NextCall.TheVariants as next_call
use Rattle.js_host.specs.declared.call.Order.{Order}
use Rattle.js_host.specs.declared.call.Order.TheVariants as order
use Rattle.js_host.specs.declared.call.Outcome.{Outcome}
use Rattle.js_host.specs.declared.call.Outcome.TheVariants as outcome
use Rattle.js_host.specs.declared.call.Resume.{Resume}

abbrev pub call_names : NativeCall → List Value → List Value
call_names c vs = c.this ∷ (c.args ++ vs)

abbrev pub resume_names : Resume → List Value → List Value
resume_names r vs = r.kept ++ vs

abbrev pub option_names : Option Value → List Value → List Value
option_names None vs = vs
option_names (Some v) vs = v ∷ vs

abbrev pub dispatch_names : DispatchAt → List Value → List Value
dispatch_names d vs = Ref d.target ∷ Ref d.event ∷ vs

abbrev pub fresh_names : Option DispatchAt → List Value → List Value
fresh_names None vs = vs
fresh_names (Some d) vs = dispatch_names d vs

abbrev pub callback_names : Callback → List Value → List Value
callback_names (callback.Call f this args) vs = f ∷ this ∷ (args ++ vs)
callback_names (callback.Dispatch d) vs = dispatch_names d vs
callback_names (callback.Convert text v) vs = v ∷ vs

abbrev pub outcome_names : Outcome → List Value → List Value
outcome_names (outcome.Value v) vs = v ∷ vs
outcome_names (outcome.Throw v) vs = v ∷ vs
outcome_names (outcome.Enter c r) vs = callback_names c (resume_names r vs)
outcome_names (outcome.Needs k) vs = vs
outcome_names outcome.NoMemory vs = vs

abbrev pub put_names : HostPut → List Value → List Value
put_names (host_put.Throw v) vs = v ∷ vs
put_names p vs = vs

abbrev pub next_names : NextCall → List Value → List Value
next_names (next_call.Call f this event) vs = f ∷ this ∷ Ref event ∷ vs
next_names (next_call.End kept) vs = vs

abbrev pub order_names : Order → List Value → List Value
order_names (order.Uncaught v) vs = v ∷ vs
order_names (order.Handler o x v) vs = Ref o ∷ v ∷ vs
order_names o vs = vs
