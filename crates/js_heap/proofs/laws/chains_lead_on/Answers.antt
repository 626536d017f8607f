use Rattle.js_heap.specs.Objects.{prototype_number}
use Rattle.js_heap.specs.Scopes.{parent_number}
use Rattle.js_heap.proofs.ChainSteps.{chain-step, led-below}
use Rattle.js_heap.proofs.laws.chains_lead_on.Goals as goal

pub returns : goal.returns
returns c = record {
  prototype_before = λ w closed n m o at leads. led-below prototype_number w.objects closed.prototypes n m o at leads;
  parent_before = λ w closed n m s at leads. led-below parent_number w.scopes closed.parents n m s at leads;
  prototypes = λ w closed. chain-step prototype_number w.objects closed.prototypes;
  scopes = λ w closed. chain-step parent_number w.scopes closed.parents;
}
