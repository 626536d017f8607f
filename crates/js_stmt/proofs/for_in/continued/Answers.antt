use Rattle.std.proofs.Common.{sym, ◌∙◌}
use Rattle.std.proofs.lemmas.Result.{IfOk-weaker}
use Rattle.js_stmt.specs.CodeRows.{labels_around}
use Rattle.js_stmt.specs.Steps.{takes}
use Rattle.js_stmt.proofs.Lists.{chosen}
use Rattle.js_stmt.proofs.for_in.continued.Goals as goal

pub returns-then-takes-clause-value : goal.returns-then-takes-clause-value
returns-then-takes-clause-value g c =
    let a = c.args.script.now in
    IfOk-weaker c.into_name.result _ _
    (λ m is. λ k h. is k h
    ∙ chosen (takes (labels_around a c.args.parts.labelling) c.args.label) _ _
    (sym c.takes.ensures ∙ c.if-takes.true))
    (c.into_name.ensures.value a)
