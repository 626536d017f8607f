use Rattle.std.proofs.Common.{[], ◌∷◌, ◌++◌, ◌∙◌, ap}
use Rattle.js_grammar.specs.inner.Sorts as sort
use Rattle.js_pieces.specs.declared.pieces.Piece.TheVariants as piece
use Rattle.js_pieces.proofs.Behind.{last_there, adds, carried, case_behind, case_first, case_onto}
use Rattle.js_pieces.proofs.pieces.Pieces.add_case.Goals as goal

pub pop-requires : goal.pop-requires
pop-requires c = last_there sort.Case c.args.self.now c.requires

pub returns-in_ok-with-in-Empty : goal.returns-in_ok-with-in-Empty
returns-in_ok-with-in-Empty c =
    adds c.push.result piece.Empty (piece.Case c.args.case) (piece.Cases c.in_ok-with-in-Empty.field-0) c.args.self.now c.pop.new.self c.push.new.self
    (c.pop.ensures ∙ ap (λ z. z ∷ c.pop.new.self) c.in-Empty.is)
    (carried (λ z. piece.Cases z) piece.Empty (piece.Case c.args.case) (c.args.case ∷ []) c.in_ok-with-in-Empty.field-0
    (c.in_ok-with-in-Empty.ensures ∙ ap (λ z. z ++ c.args.case ∷ []) c.new.ensures) (case_first c.args.case)) c.push.ensures

pub returns-in_ok-with-in-Cases : goal.returns-in_ok-with-in-Cases
returns-in_ok-with-in-Cases c =
    adds c.push-in-Cases.result (piece.Cases c.in-Cases.cases) (piece.Case c.args.case) (piece.Cases c.in_ok-with-in-Cases.field-0) c.args.self.now c.pop.new.self c.push-in-Cases.new.self
    (c.pop.ensures ∙ ap (λ z. z ∷ c.pop.new.self) c.in-Cases.is)
    (carried (λ z. piece.Cases z) (piece.Cases c.in-Cases.cases) (piece.Case c.args.case) (c.in-Cases.cases ++ c.args.case ∷ []) c.in_ok-with-in-Cases.field-0
    c.in_ok-with-in-Cases.ensures (case_behind c.in-Cases.cases c.args.case)) c.push-in-Cases.ensures

pub unreachable-requires : goal.unreachable-requires
unreachable-requires c =
    case_onto c.pop.result c.pop.new.self c.args.self.now c.pop.ensures c.requires
    c.in_default.not-Empty c.in_default.not-Cases
