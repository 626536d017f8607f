use Rattle.js_host.proofs.Lasting.{there_lasts}
use Rattle.js_host.specs.Tests.{there}
use Rattle.js_host.proofs.laws.names_are_there.Goals as goal

pub returns : goal.returns
returns g c = λ w h id d a. (g.met.H.Host.keeps.native w h id d).passes there there_lasts a
