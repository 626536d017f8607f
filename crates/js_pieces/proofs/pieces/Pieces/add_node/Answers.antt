use Rattle.std.proofs.Common.{[], ◌∷◌, ◌++◌, Some, ◌∙◌, ap}
use Rattle.js_grammar.specs.inner.Sorts as sort
use Rattle.js_pieces.specs.declared.pieces.Piece.TheVariants as piece
use Rattle.js_pieces.proofs.Behind.{last_there, adds, carried, element_behind, node_behind, node_first, node_onto}
use Rattle.js_pieces.proofs.pieces.Pieces.add_node.Goals as goal

pub pop-requires : goal.pop-requires
pop-requires c = last_there sort.Node c.args.self.now c.requires

pub returns-in_ok-with-in-Empty : goal.returns-in_ok-with-in-Empty
returns-in_ok-with-in-Empty c =
    adds c.push.result piece.Empty (piece.Node c.args.id) (piece.Nodes c.in_ok-with-in-Empty.field-0) c.args.self.now c.pop.new.self c.push.new.self
    (c.pop.ensures ∙ ap (λ z. z ∷ c.pop.new.self) c.in-Empty.is)
    (carried (λ z. piece.Nodes z) piece.Empty (piece.Node c.args.id) (c.args.id ∷ []) c.in_ok-with-in-Empty.field-0
    (c.in_ok-with-in-Empty.ensures ∙ ap (λ z. z ++ c.args.id ∷ []) c.new.ensures) (node_first c.args.id)) c.push.ensures

pub returns-in_ok-with-in-Nodes : goal.returns-in_ok-with-in-Nodes
returns-in_ok-with-in-Nodes c =
    adds c.push-in-Nodes.result (piece.Nodes c.in-Nodes.ids) (piece.Node c.args.id) (piece.Nodes c.in_ok-with-in-Nodes.field-0) c.args.self.now c.pop.new.self c.push-in-Nodes.new.self
    (c.pop.ensures ∙ ap (λ z. z ∷ c.pop.new.self) c.in-Nodes.is)
    (carried (λ z. piece.Nodes z) (piece.Nodes c.in-Nodes.ids) (piece.Node c.args.id) (c.in-Nodes.ids ++ c.args.id ∷ []) c.in_ok-with-in-Nodes.field-0
    c.in_ok-with-in-Nodes.ensures (node_behind c.in-Nodes.ids c.args.id)) c.push-in-Nodes.ensures

pub returns-in_ok-with-in-Elements : goal.returns-in_ok-with-in-Elements
returns-in_ok-with-in-Elements c =
    adds c.push-in-Elements.result (piece.Elements c.in-Elements.ids) (piece.Node c.args.id) (piece.Elements c.in_ok-with-in-Elements.field-0) c.args.self.now c.pop.new.self c.push-in-Elements.new.self
    (c.pop.ensures ∙ ap (λ z. z ∷ c.pop.new.self) c.in-Elements.is)
    (carried (λ z. piece.Elements z) (piece.Elements c.in-Elements.ids) (piece.Node c.args.id) (c.in-Elements.ids ++ Some c.args.id ∷ []) c.in_ok-with-in-Elements.field-0
    c.in_ok-with-in-Elements.ensures (element_behind c.in-Elements.ids c.args.id)) c.push-in-Elements.ensures

pub unreachable-requires : goal.unreachable-requires
unreachable-requires c =
    node_onto c.pop.result c.pop.new.self c.args.self.now c.pop.ensures c.requires
    c.in_default.not-Empty c.in_default.not-Nodes c.in_default.not-Elements
