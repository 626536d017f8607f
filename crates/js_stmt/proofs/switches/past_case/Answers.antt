use Rattle.std.proofs.Common.{◌≡◌, IfOk, Some, ap, drop, subst, ◌∙◌}
use Rattle.std.proofs.lemmas.Option.{same_Some}
use Rattle.js_tree.specs.Trees.{cases}
use Rattle.js_stmt.specs.CodeRows.{clauses_as, labels_around}
use Rattle.js_stmt.specs.Parts.{Makes}
use Rattle.js_stmt.specs.Switches.{at_clause, behind_first, first_tested}
use Rattle.js_stmt.specs.declared.row.StmtRow.TheVariants as code
use Rattle.js_stmt.proofs.switches.past_case.Goals as goal

pub returns : goal.returns
returns c = λ a v e.
    let p = c.args.parts in
    let cs = clauses_as a p.clauses.now in
    let ls = labels_around a p.labelling in
    let u = c.in_ok-value-in-Some.value in
    let same : u ≡ v = same_Some u v (ap Some c.in_ok-value-in-Some.ensures ∙ c.in-Some.ensures ∙ e) in
    subst
    (λ g. IfOk c.into_clause.result
    (λ m. Makes a (cases p.clauses.now) (code.Switch p) c.into_clause.new.operands m g))
    (ap (λ t. at_clause cs ls u (first_tested t)) (c.next_place.ensures a)
    ∙ ap (λ x. at_clause cs ls x
    (first_tested (behind_first (clauses_as a (drop c.args.at p.clauses.now))))) same)
    (c.into_clause.ensures a)
