use Rattle.std.proofs.Common.{[], sym, ◌∙◌}
use Rattle.std.proofs.lemmas.List.{append-nil}
use Rattle.input_log.specs.Items.{encoding}
use Rattle.input_log.proofs.Laws.{same_item}
use Rattle.input_log.proofs.promises.no_item_begins_another.Goals as goal

pub returns : goal.returns
returns c = λ a b rest first second same.
    let both = same_item a b rest [] first second (sym same ∙ sym (append-nil (encoding b))) in
    (both.0, both.1)
