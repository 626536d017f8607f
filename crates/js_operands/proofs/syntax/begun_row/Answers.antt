use Rattle.std.proofs.Common.{ap, sym, ◌∙◌}
use Rattle.js_operands.specs.ArenaRows.{node_row, update_row_of}
use Rattle.js_operands.specs.declared.row.Side.TheVariants.{Before, Behind}
use Rattle.js_operands.proofs.syntax.begun_row.Goals as goal

pub returns-in-Postfix : goal.returns-in-Postfix
returns-in-Postfix c =
    let a = c.args.script.now in
    c.update_row.ensures a ∙ ap (update_row_of a c.in-Postfix.operator Behind) (sym c.node-in-Postfix.ensures.is) ∙ ap (node_row a) (sym c.in-Postfix.is)

pub returns-in-Prefix : goal.returns-in-Prefix
returns-in-Prefix c =
    let a = c.args.script.now in
    c.update_row-in-Prefix.ensures a ∙ ap (update_row_of a c.in-Prefix.operator Before) (sym c.node-in-Prefix.ensures.is) ∙ ap (node_row a) (sym c.in-Prefix.is)
