use Rattle.std.proofs.Common.{ap, drop, refl, sym, ◌∙◌}
use Rattle.std.proofs.lemmas.Result.{IfOk-weaker}
use Rattle.std.specs.Option.{option_map}
use Rattle.js_term.specs.Evaluation.{Evaluation}
use Rattle.js_tree.specs.TreeAt.{tree_at}
use Rattle.js_stmt.specs.CodeRows.{clauses_as, labels_around, operand_trees}
use Rattle.js_stmt.specs.Made.Progress.{GoesOn}
use Rattle.js_stmt.specs.Rows.StmtRow.{Case}
use Rattle.js_stmt.specs.Switches.{Tested, at_clause}
use Rattle.js_stmt.specs.declared.found.Found.{Found}
use Rattle.js_stmt.proofs.ClauseLists.{held_drop, tested_tree}
use Rattle.js_stmt.proofs.switches.into_clause.Goals as goal

pub returns-in_ok-restart_with-in-Some : goal.returns-in_ok-restart_with-in-Some
returns-in_ok-restart_with-in-Some c = λ a k h.
    let cs = c.args.parts.clauses.now in
    let i = c.args.from in
    let ls = labels_around a c.args.parts.labelling in
    let f : Found → Tested =
    λ f. record { test = tree_at a f.node; clauses = clauses_as a (drop f.at cs) } in
    ap
    (λ (e : Evaluation). GoesOn (Case (clauses_as a cs)
    (clauses_as a (drop c.in-Some.found.at cs)) ls) e.done (operand_trees a k e.todo))
    c.in_ok-restart_with-in-Some.ensures
    ∙ sym (ap (at_clause (clauses_as a cs) ls c.args.value)
    (tested_tree a cs (drop i cs) i refl (held_drop a cs i h)
    ∙ ap (option_map f) (sym c.in-Some.ensures)))

pub returns-in-None : goal.returns-in-None
returns-in-None c = λ a.
    let cs = c.args.parts.clauses.now in
    let i = c.args.from in
    let f : Found → Tested =
    λ f. record { test = tree_at a f.node; clauses = clauses_as a (drop f.at cs) } in
    IfOk-weaker c.into_default.result _ _
    (λ m makes. λ k h. makes k h
    ∙ sym (ap (at_clause (clauses_as a cs) (labels_around a c.args.parts.labelling) c.args.value)
    (tested_tree a cs (drop i cs) i refl (held_drop a cs i h)
    ∙ ap (option_map f) (sym c.in-None.ensures))))
    (c.into_default.ensures a)
