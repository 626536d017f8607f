use Rattle.std.proofs.Common.{ap, drop, refl, sym, ◌∙◌}
use Rattle.std.proofs.lemmas.Result.{IfOk-weaker}
use Rattle.std.specs.Option.{option_map}
use Rattle.js_stmt.specs.CodeRows.{clauses_as, labels_around}
use Rattle.js_stmt.specs.Switches.{at_default}
use Rattle.js_stmt.proofs.ClauseLists.{default_tree}
use Rattle.js_stmt.proofs.switches.into_default.Goals as goal

pub returns-in-Some : goal.returns-in-Some
returns-in-Some c = λ a.
    let cs = c.args.parts.clauses.now in
    IfOk-weaker c.into_statements.result _ _
    (λ m makes. λ k h. makes k h
    ∙ sym (ap (at_default (labels_around a c.args.parts.labelling))
    (default_tree a cs cs 0 refl h
    ∙ ap (option_map (λ j. clauses_as a (drop j cs))) (sym c.in-Some.ensures))))
    (c.into_statements.ensures a)

pub returns-in-None : goal.returns-in-None
returns-in-None c = λ a k h.
    let cs = c.args.parts.clauses.now in
    sym (ap (at_default (labels_around a c.args.parts.labelling))
    (default_tree a cs cs 0 refl h
    ∙ ap (option_map (λ j. clauses_as a (drop j cs))) (sym c.in-None.ensures)))
