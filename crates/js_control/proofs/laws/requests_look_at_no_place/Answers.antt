use Rattle.js_control.proofs.Targets.{no_places}
use Rattle.js_control.proofs.laws.requests_look_at_no_place.Goals as goal

pub returns : goal.returns
returns g c = no_places
