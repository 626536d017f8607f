use Rattle.std.proofs.Common.{[], ◌∷◌, ◌++◌, None, ◌∙◌, ap}
use Rattle.js_tree.specs.Trees.{nodes}
use Rattle.js_grammar.specs.inner.Sorts as sort
use Rattle.js_pieces.specs.declared.pieces.Piece.TheVariants as piece
use Rattle.js_pieces.proofs.Behind.{last_there, adds, carried, hole_behind, hole_behind_nodes, hole_first, hole_onto}
use Rattle.js_pieces.proofs.pieces.Pieces.add_hole.Goals as goal

pub pop-requires : goal.pop-requires
pop-requires c = last_there sort.Gap c.args.self.now c.requires

pub returns-in_ok-with-in-Empty : goal.returns-in_ok-with-in-Empty
returns-in_ok-with-in-Empty c =
    adds c.push.result piece.Empty piece.Missing (piece.Elements c.in_ok-with-in-Empty.field-0) c.args.self.now c.pop.new.self c.push.new.self
    (c.pop.ensures ∙ ap (λ z. z ∷ c.pop.new.self) c.in-Empty.is)
    (carried (λ z. piece.Elements z) piece.Empty piece.Missing (None ∷ []) c.in_ok-with-in-Empty.field-0
    (c.in_ok-with-in-Empty.ensures ∙ ap (λ z. z ++ None ∷ []) c.new.ensures) hole_first) c.push.ensures

pub returns-in_ok-with-in-Nodes : goal.returns-in_ok-with-in-Nodes
returns-in_ok-with-in-Nodes c =
    adds c.push-in-Nodes.result (piece.Nodes c.in-Nodes.ids) piece.Missing (piece.Elements c.in_ok-with-in-Nodes.field-0) c.args.self.now c.pop.new.self c.push-in-Nodes.new.self
    (c.pop.ensures ∙ ap (λ z. z ∷ c.pop.new.self) c.in-Nodes.is)
    (carried (λ z. piece.Elements z) (piece.Nodes c.in-Nodes.ids) piece.Missing (c.in_ok-elements-in-Nodes.elements ++ None ∷ []) c.in_ok-with-in-Nodes.field-0
    c.in_ok-with-in-Nodes.ensures (hole_behind_nodes c.in-Nodes.ids c.in_ok-elements-in-Nodes.elements
    (c.in_ok-elements-in-Nodes.ensures ∙ ap nodes c.as_slice.ensures))) c.push-in-Nodes.ensures

pub returns-in_ok-with-in-Elements : goal.returns-in_ok-with-in-Elements
returns-in_ok-with-in-Elements c =
    adds c.push-in-Elements.result (piece.Elements c.in-Elements.ids) piece.Missing (piece.Elements c.in_ok-with-in-Elements.field-0) c.args.self.now c.pop.new.self c.push-in-Elements.new.self
    (c.pop.ensures ∙ ap (λ z. z ∷ c.pop.new.self) c.in-Elements.is)
    (carried (λ z. piece.Elements z) (piece.Elements c.in-Elements.ids) piece.Missing (c.in-Elements.ids ++ None ∷ []) c.in_ok-with-in-Elements.field-0
    c.in_ok-with-in-Elements.ensures (hole_behind c.in-Elements.ids)) c.push-in-Elements.ensures

pub unreachable-requires : goal.unreachable-requires
unreachable-requires c =
    hole_onto c.pop.result c.pop.new.self c.args.self.now c.pop.ensures c.requires
    c.in_default.not-Empty c.in_default.not-Nodes c.in_default.not-Elements
