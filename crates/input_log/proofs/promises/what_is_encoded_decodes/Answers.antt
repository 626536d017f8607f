use Rattle.std.proofs.Common.{length, sym, ◌∙◌, ap, refl}
use Rattle.input_log.specs.Items.{encoding}
use Rattle.input_log.proofs.Laws.{same_item}
use Rattle.input_log.proofs.promises.what_is_encoded_decodes.Goals as goal

pub returns-clause-same : goal.returns-clause-same
returns-clause-same c = λ item found rest len valid begins.
    let same = (same_item found item begins.rest rest begins.valid valid (sym begins.is)).0 in
    (same, begins.takes ∙ ap (λ i. length (encoding i)) same)

pub returns-clause-some : goal.returns-clause-some
returns-clause-some c = λ item rest valid none. none item rest valid refl
