use Rattle.std.proofs.Common.{IfOk, subst, sym, ◌∙◌}
use Rattle.js_term.specs.declared.completion.Completion.TheVariants.{Continue}
use Rattle.js_stmt.specs.CodeRows.{labels_around, loop_as}
use Rattle.js_stmt.specs.Loops.{into_update}
use Rattle.js_stmt.specs.Made.Progress.{Completes}
use Rattle.js_stmt.specs.Parts.{Makes, loop_parts}
use Rattle.js_stmt.specs.Steps.{takes}
use Rattle.js_stmt.specs.declared.row.StmtRow.TheVariants as code
use Rattle.js_stmt.proofs.Lists.{chosen}
use Rattle.js_stmt.proofs.loops.continued.Goals as goal

pub returns-then-takes : goal.returns-then-takes
returns-then-takes c =
    let a = c.args.script.now in
    let p = c.args.parts in
    subst
    (λ g. IfOk c.into_update.result
    (λ m. Makes a (loop_parts p) (code.LoopBody p) c.into_update.new.operands m g))
    (chosen (takes (labels_around a p.labelling) c.args.label) (into_update (loop_as a p))
    (Completes (Continue c.args.label)) (sym c.takes.ensures ∙ c.if-takes.true))
    (c.into_update.ensures a)
