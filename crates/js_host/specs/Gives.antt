-- What a call gave is its definition's value. Where memory ran out nothing is said: the run ends.
use Rattle.std.specs.Prelude.{◌≡◌, Option, Some, None, Result, Ok, Err}
use Rattle.js_heap.specs.World.{World}
use Rattle.js_heap.specs.declared.fault.HeapFault.{HeapFault}
use Rattle.js_heap.specs.declared.fault.HeapFault.TheVariants as heap_fault
use Rattle.js_host.specs.declared.call.DispatchAt.{DispatchAt}
use Rattle.js_host.specs.declared.call.HostPut.{HostPut}
use Rattle.js_host.specs.declared.call.HostPut.TheVariants as host_put
use Rattle.js_host.specs.declared.call.Outcome.{Outcome}
use Rattle.js_host.specs.declared.call.Outcome.TheVariants as outcome

module _ {H : Type 0} where
  abbrev pub OutcomeGives : Outcome × World × H → Outcome → World → H → Type 0
  OutcomeGives row outcome.NoMemory w h = Unit {0}
  OutcomeGives row o w h = row ≡ (o, w, h)

  abbrev pub PutGives : HostPut × World × H → HostPut → World → H → Type 0
  PutGives row host_put.NoMemory w h = Unit {0}
  PutGives row p w h = row ≡ (p, w, h)

  abbrev pub FreshGives : Option DispatchAt × World × H → Result DispatchAt HeapFault → World → H
      → Type 0
  FreshGives row (Ok d) w h = row ≡ (Some d, w, h)
  FreshGives row (Err heap_fault.Full) w h = row ≡ (None, w, h)
  FreshGives row (Err heap_fault.NoMemory) w h = Unit {0}
