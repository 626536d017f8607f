use Rattle.std.proofs.Common.{ap}
use Rattle.js_term.specs.Due.{found_place}
use Rattle.js_term.specs.Term.{terms}
use Rattle.js_term.proofs.Places.{due-early, due-stop, due-values, place-reading}
use Rattle.js_term.proofs.laws.a_place_is_at_the_top.Goals as goal

pub returns : goal.returns
returns g c = record {
  stack = λ T term fs t p a e. place-reading T term fs t p a e;
  rests = λ T term r vs e a. ap found_place (due-values T r vs e a);
  early = λ T term r vs x todo e a b. ap found_place (due-early T r vs (term r x) (terms (term r) todo) e a b);
  met = λ T term r vs todo k a b. ap found_place (due-stop T r vs k (terms (term r) todo) a b);
}
