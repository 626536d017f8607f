-- Whether a native may ask, by the hosts' table.
use Rattle.std.specs.Prelude.{Bool}
use Rattle.js_value.specs.declared.value.NativeId.{NativeId}
use Rattle.js_host.specs.Natives as natives

abbrev pub asks : NativeId → Bool
asks n = natives.asks n.number
