use Rattle.std.proofs.Common.{ℕ, List, subst}
use Rattle.mug_text.specs.Text.{IsText}
use Rattle.mug_text.proofs.Texts.{well_formed, units_fit, bytes_back, only_text, text_or_stop}
use Rattle.mug_text.proofs.Reading.{stops_from_valid}
use Rattle.mug_text.proofs.text.JText.from_utf8.Goals as goal

pub returns-in_ok-of_str-in-Ok-clause-ok : goal.returns-in_ok-of_str-in-Ok-clause-ok
returns-in_ok-of_str-in-Ok-clause-ok c = subst (λ (l : List ℕ). IsText l c.in_ok-of_str-in-Ok.field-0) c.in-Ok.ensures.cases.0 c.in_ok-of_str-in-Ok.ensures

pub returns-in_ok-of_str-in-Ok-clause-well_formed : goal.returns-in_ok-of_str-in-Ok-clause-well_formed
returns-in_ok-of_str-in-Ok-clause-well_formed c = well_formed (returns-in_ok-of_str-in-Ok-clause-ok c)

pub returns-in_ok-of_str-in-Ok-clause-units : goal.returns-in_ok-of_str-in-Ok-clause-units
returns-in_ok-of_str-in-Ok-clause-units c = units_fit (returns-in_ok-of_str-in-Ok-clause-ok c)

pub returns-in_ok-of_str-in-Ok-clause-whole : goal.returns-in_ok-of_str-in-Ok-clause-whole
returns-in_ok-of_str-in-Ok-clause-whole c = bytes_back (returns-in_ok-of_str-in-Ok-clause-ok c)

pub returns-in_ok-of_str-in-Ok-clause-unique : goal.returns-in_ok-of_str-in-Ok-clause-unique
returns-in_ok-of_str-in-Ok-clause-unique c = only_text (returns-in_ok-of_str-in-Ok-clause-ok c)

pub returns-in-Err-clause-refused : goal.returns-in-Err-clause-refused
returns-in-Err-clause-refused c = stops_from_valid (rw c.valid_up_to.ensures c.in-Err.ensures.cases.1)

pub returns-in-Err-clause-no_text : goal.returns-in-Err-clause-no_text
returns-in-Err-clause-no_text c = λ at is. text_or_stop {at = c.valid_up_to.result} (returns-in-Err-clause-refused c)
