use Rattle.std.proofs.Common.{◌+◌, ap, drop, refl, ◌∙◌}
use Rattle.js_term.specs.Evaluation.{Evaluation}
use Rattle.js_stmt.specs.CodeRows.{operand_trees, var_as}
use Rattle.js_stmt.specs.Made.Progress.{GoesOn}
use Rattle.js_stmt.proofs.ClauseLists.{declared_progress, declared_tree, held_declarators}
use Rattle.js_stmt.proofs.variables.into_next.Goals as goal

pub returns-in_ok-restart-in-Some : goal.returns-in_ok-restart-in-Some
returns-in_ok-restart-in-Some c = λ a k h.
    let ds = c.args.declarators.now in
    let i = c.args.place + 1 in
    ap
    (λ (e : Evaluation). GoesOn (var_as a (drop c.in-Some.found.at ds)) e.done
    (operand_trees a k e.todo))
    c.in_ok-restart-in-Some.ensures
    ∙ ap (declared_progress a ds) c.in-Some.ensures
    ∙ declared_tree a ds (drop i ds) i refl (held_declarators a ds i h)

pub returns-in-None : goal.returns-in-None
returns-in-None c = λ a k h.
    let ds = c.args.declarators.now in
    let i = c.args.place + 1 in
    ap (declared_progress a ds) c.in-None.ensures
    ∙ declared_tree a ds (drop i ds) i refl (held_declarators a ds i h)
