use Rattle.js_host.proofs.Lasting.{class_stays}
use Rattle.js_host.proofs.laws.classes_and_scopes_stay.Goals as goal

pub returns : goal.returns
returns g c = record {
  classes = λ w h id d n k e. class_stays w (g.H.Host.rows.native w h id d).1 n k (g.met.H.Host.keeps.native w h id d).grows e;
  scopes = λ w h id d. (g.met.H.Host.keeps.native w h id d).grows.scopes;
}
