use Rattle.std.proofs.Common.{[], ◌∷◌, ◌++◌, ◌∙◌, ap}
use Rattle.js_pieces.specs.Pieces.{sort_of_value}
use Rattle.js_pieces.specs.declared.pieces.Piece.TheVariants as piece
use Rattle.js_pieces.proofs.Behind.{last_there, adds, carried, named_behind, named_first, named_onto}
use Rattle.js_pieces.proofs.pieces.Pieces.add_named.Goals as goal

pub pop-requires : goal.pop-requires
pop-requires c = last_there (sort_of_value c.args.named.value) c.args.self.now c.requires

pub returns-in_ok-with-in-Empty : goal.returns-in_ok-with-in-Empty
returns-in_ok-with-in-Empty c =
    adds c.push.result piece.Empty (piece.Named c.args.named) (piece.AllNamed c.in_ok-with-in-Empty.field-0) c.args.self.now c.pop.new.self c.push.new.self
    (c.pop.ensures ∙ ap (λ z. z ∷ c.pop.new.self) c.in-Empty.is)
    (carried (λ z. piece.AllNamed z) piece.Empty (piece.Named c.args.named) (c.args.named ∷ []) c.in_ok-with-in-Empty.field-0
    (c.in_ok-with-in-Empty.ensures ∙ ap (λ z. z ++ c.args.named ∷ []) c.new.ensures) (named_first c.args.named)) c.push.ensures

pub returns-in_ok-with-in-AllNamed : goal.returns-in_ok-with-in-AllNamed
returns-in_ok-with-in-AllNamed c =
    adds c.push-in-AllNamed.result (piece.AllNamed c.in-AllNamed.all) (piece.Named c.args.named) (piece.AllNamed c.in_ok-with-in-AllNamed.field-0) c.args.self.now c.pop.new.self c.push-in-AllNamed.new.self
    (c.pop.ensures ∙ ap (λ z. z ∷ c.pop.new.self) c.in-AllNamed.is)
    (carried (λ z. piece.AllNamed z) (piece.AllNamed c.in-AllNamed.all) (piece.Named c.args.named) (c.in-AllNamed.all ++ c.args.named ∷ []) c.in_ok-with-in-AllNamed.field-0
    c.in_ok-with-in-AllNamed.ensures (named_behind c.in-AllNamed.all c.args.named)) c.push-in-AllNamed.ensures

pub unreachable-requires : goal.unreachable-requires
unreachable-requires c =
    named_onto c.pop.result c.pop.new.self c.args.self.now c.args.named.value c.pop.ensures c.requires
    c.in_default.not-Empty c.in_default.not-AllNamed
