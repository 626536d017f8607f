use Rattle.std.proofs.Common.{Some, ap, sym, ◌∙◌}
use Rattle.js_operands.specs.ArenaRows.{assignment_row_of}
use Rattle.js_operands.proofs.syntax.assignment_row.Goals as goal

pub returns-in-None : goal.returns-in-None
returns-in-None c = λ a. c.assign_row.ensures a ∙ ap (λ o. assignment_row_of a o (Some c.args.target.now) c.args.right) (sym c.in-None.is)
