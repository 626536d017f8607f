use Rattle.js_host.proofs.There.{among-there}
use Rattle.js_host.proofs.laws.there_is_among_the_objects.Goals as goal

pub returns : goal.returns
returns c = among-there
