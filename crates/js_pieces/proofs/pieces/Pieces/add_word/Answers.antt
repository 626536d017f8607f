use Rattle.std.proofs.Common.{[], ◌∷◌, ◌++◌, ◌∙◌, ap}
use Rattle.js_grammar.specs.inner.Sorts as sort
use Rattle.js_pieces.specs.declared.pieces.Piece.TheVariants as piece
use Rattle.js_pieces.proofs.Behind.{last_there, adds, carried, word_behind, word_first, word_onto}
use Rattle.js_pieces.proofs.pieces.Pieces.add_word.Goals as goal

pub pop-requires : goal.pop-requires
pop-requires c = last_there sort.Text c.args.self.now c.requires

pub returns-in_ok-with-in-Empty : goal.returns-in_ok-with-in-Empty
returns-in_ok-with-in-Empty c =
    adds c.push.result piece.Empty (piece.Text c.args.text) (piece.Words c.in_ok-with-in-Empty.field-0) c.args.self.now c.pop.new.self c.push.new.self
    (c.pop.ensures ∙ ap (λ z. z ∷ c.pop.new.self) c.in-Empty.is)
    (carried (λ z. piece.Words z) piece.Empty (piece.Text c.args.text) (c.args.text ∷ []) c.in_ok-with-in-Empty.field-0
    (c.in_ok-with-in-Empty.ensures ∙ ap (λ z. z ++ c.args.text ∷ []) c.new.ensures) (word_first c.args.text)) c.push.ensures

pub returns-in_ok-with-in-Words : goal.returns-in_ok-with-in-Words
returns-in_ok-with-in-Words c =
    adds c.push-in-Words.result (piece.Words c.in-Words.words) (piece.Text c.args.text) (piece.Words c.in_ok-with-in-Words.field-0) c.args.self.now c.pop.new.self c.push-in-Words.new.self
    (c.pop.ensures ∙ ap (λ z. z ∷ c.pop.new.self) c.in-Words.is)
    (carried (λ z. piece.Words z) (piece.Words c.in-Words.words) (piece.Text c.args.text) (c.in-Words.words ++ c.args.text ∷ []) c.in_ok-with-in-Words.field-0
    c.in_ok-with-in-Words.ensures (word_behind c.in-Words.words c.args.text)) c.push-in-Words.ensures

pub unreachable-requires : goal.unreachable-requires
unreachable-requires c =
    word_onto c.pop.result c.pop.new.self c.args.self.now c.pop.ensures c.requires
    c.in_default.not-Empty c.in_default.not-Words
