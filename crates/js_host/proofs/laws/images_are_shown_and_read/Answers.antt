use Rattle.js_host.proofs.Plain.{get-plain}
use Rattle.js_host.proofs.ShownImages.{shown-plain}
use Rattle.js_host.proofs.laws.images_are_shown_and_read.Goals as goal

pub returns : goal.returns
returns c = record { shown = shown-plain; read = get-plain }
