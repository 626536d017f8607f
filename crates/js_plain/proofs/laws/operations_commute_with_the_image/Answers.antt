use Rattle.js_plain.proofs.Literals.{operators-plain}
use Rattle.js_plain.proofs.Writing.{hosted-plain, operations-plain}
use Rattle.js_plain.proofs.laws.operations_commute_with_the_image.Goals as goal

pub returns : goal.returns
returns g c = record {
  operations = operations-plain;
  operators = operators-plain;
  hosts =
      hosted-plain;
}
