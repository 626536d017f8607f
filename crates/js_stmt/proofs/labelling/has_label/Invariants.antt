-- The labels that were passed are others.
use Rattle.std.proofs.Common.{◌≡◌, ◌<◌, suc, [], length}
use Rattle.js_tree.specs.Names.{is_among}
use Rattle.js_stmt.specs.CodeRows.{labels_around, labels_up_to}
use Rattle.js_stmt.proofs.labelling.has_label.Given as goal

abbrev pub invariant-loop-at : goal.invariant-loop-at
invariant-loop-at l = record {
  there : l.at.number < length l.script.kept;
  same : is_among l.label (labels_around l.script l.labelling)
      ≡ is_among l.label (labels_up_to l.script l.labelling.statement (suc l.at.number) l.at []);
}

abbrev pub decreases-loop-at : goal.decreases-loop-at
decreases-loop-at l = l.at.number
