use Rattle.js_term.proofs.ArenaSyntax.{arenas-are-syntax}
use Rattle.js_term.proofs.laws.arenas_are_syntax.Goals as goal

pub returns : goal.returns
returns g c = λ no_step row text labels arenas named around ordered.
    arenas-are-syntax no_step row text labels arenas named around ordered
