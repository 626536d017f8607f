use Rattle.std.proofs.Common.{◌∷◌, None, Some, ◌∙◌, ap}
use Rattle.js_grammar.specs.inner.Sorts as sort
use Rattle.js_pieces.specs.declared.pieces.Piece.TheVariants as piece
use Rattle.js_pieces.proofs.Behind.{before_statements, last_of_pair, pair_of_case, pair_of_catch, pair_of_default, pairs}
use Rattle.js_pieces.proofs.pieces.Pieces.pair_statements.Goals as goal

pub pop-requires : goal.pop-requires
pop-requires c = last_of_pair sort.Nodes c.args.self.now c.requires

pub returns-in-Node : goal.returns-in-Node
returns-in-Node c = pairs c.push.result (piece.Node c.in-Node.id) (piece.Nodes c.args.statements) (piece.Case (record { test = Some c.in-Node.id; statements = c.args.statements })) c.args.self.now c.pop.new.self c.push.new.self (c.pop.ensures ∙ ap (λ z. z ∷ c.pop.new.self) c.in-Node.is) (pair_of_case c.in-Node.id c.args.statements) c.push.ensures

pub returns-in-Missing : goal.returns-in-Missing
returns-in-Missing c = pairs c.push-in-Missing.result piece.Missing (piece.Nodes c.args.statements) (piece.Case (record { test = None; statements = c.args.statements })) c.args.self.now c.pop.new.self c.push-in-Missing.new.self (c.pop.ensures ∙ ap (λ z. z ∷ c.pop.new.self) c.in-Missing.is) (pair_of_default c.args.statements) c.push-in-Missing.ensures

pub returns-in-Text : goal.returns-in-Text
returns-in-Text c = pairs c.push-in-Text.result (piece.Text c.in-Text.name) (piece.Nodes c.args.statements) (piece.Catch (record { name = c.in-Text.name; statements = c.args.statements })) c.args.self.now c.pop.new.self c.push-in-Text.new.self (c.pop.ensures ∙ ap (λ z. z ∷ c.pop.new.self) c.in-Text.is) (pair_of_catch c.in-Text.name c.args.statements) c.push-in-Text.ensures

pub unreachable-requires : goal.unreachable-requires
unreachable-requires c = before_statements c.pop.result c.pop.new.self c.args.self.now c.pop.ensures c.requires c.in_default.not-Node c.in_default.not-Missing c.in_default.not-Text
