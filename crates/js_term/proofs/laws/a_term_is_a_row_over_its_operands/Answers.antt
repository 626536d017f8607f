use Rattle.js_term.proofs.Trees.{term-opened, trees-are-syntax}
use Rattle.js_term.proofs.laws.a_term_is_a_row_over_its_operands.Goals as goal

pub returns : goal.returns
returns g c = record { opened = term-opened; syntax = trees-are-syntax }
