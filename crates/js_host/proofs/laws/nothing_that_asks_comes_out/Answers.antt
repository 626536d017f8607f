use Rattle.js_host.proofs.Lasting.{calm_lasts}
use Rattle.js_host.specs.Tests.{calm}
use Rattle.js_host.proofs.laws.nothing_that_asks_comes_out.Goals as goal

pub returns : goal.returns
returns g c = λ w h id d a. (g.met.H.Host.keeps.native w h id d).passes calm calm_lasts a
