-- The properties that a host gives to its objects, by the definitions of its calls.
use Rattle.js_host.specs.Rows.{HostRows}
use Rattle.js_host.specs.declared.call.HostPut.{HostPut}
use Rattle.js_host.specs.declared.call.HostPut.TheVariants as host_put
use Rattle.js_heap.specs.World.{World}
use Rattle.js_reference.specs.Own.{HostWrite, OwnProperties}
use Rattle.js_reference.specs.Own.HostWrite.{NotHost, Took, Refused}

-- what a write to one comes to; a definition doesn't run out of memory
abbrev pub host_write : {H : Type 0} → HostPut → World → H → HostWrite H
host_write host_put.NotHost w h = NotHost
host_write host_put.Put w h = Took w h
host_write (host_put.Throw v) w h = Refused v w h
host_write host_put.NoMemory w h = NotHost

abbrev pub hosted : {H D : Type 0} → HostRows H D → OwnProperties H
hosted R = record {
  get = R.get_own;
  put = λ w h o x v.
      let r = R.put_own w h o x v in host_write r.0 r.1 r.2;
  sets_handler = R.is_handler;
}
