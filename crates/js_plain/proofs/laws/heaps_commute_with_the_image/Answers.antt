use Rattle.js_plain.proofs.Objects.{objects-plain}
use Rattle.js_plain.proofs.Scopes.{scopes-plain}
use Rattle.js_plain.proofs.Values.{values-plain}
use Rattle.js_plain.proofs.laws.heaps_commute_with_the_image.Goals as goal

pub returns : goal.returns
returns c = record { objects = objects-plain; scopes = scopes-plain; values = values-plain }
