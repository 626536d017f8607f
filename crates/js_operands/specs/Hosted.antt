-- What rows are told of a host that has these definitions: its own properties, and what the table of
-- natives says of their arguments.
use Rattle.js_host.specs.Natives.{wants}
use Rattle.js_host.specs.Rows.{HostRows}
use Rattle.js_reference.specs.Hosted.{hosted}
use Rattle.js_operands.specs.Setting.{HostFacts}

abbrev pub facts : {H D : Type 0} → HostRows H D → HostFacts H
facts R = record { own = hosted R; wants = wants }
