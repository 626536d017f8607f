use Rattle.std.proofs.Common.{refl}
use Rattle.js_host.specs.Natives.{natives}
use Rattle.js_term.specs.Contraction.{contract}
use Rattle.term_answers.proofs.laws.an_array_is_a_line.Goals as goal

pub returns : goal.returns
unfolding natives contract
returns c = λ k w h p v. refl
