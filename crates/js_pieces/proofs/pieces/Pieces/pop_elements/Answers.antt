use Rattle.std.proofs.Common.{◌≡◌, Ok, ◌∙◌, ap, sym, subst}
use Rattle.js_tree.specs.Trees.{Holds, elements, nodes}
use Rattle.js_grammar.specs.inner.Sorts as sort
use Rattle.js_pieces.specs.declared.pieces.Piece.TheVariants as piece
use Rattle.js_pieces.specs.Pieces.{Takes}
use Rattle.js_pieces.proofs.Sorting.{elements_is, if_as, last_is, takes, takes_if}
use Rattle.js_pieces.proofs.pieces.Pieces.pop_elements.Goals as goal
use Rattle.js_pieces.proofs.pieces.Pieces.pop_elements.Goals.{in-Empty, in-Nodes, in-Elements}

pub pop-requires : goal.pop-requires
pop-requires c = (sort.Elements, c.requires)

pub returns : goal.returns
returns c = elim c.match-pop.branch [
  | in-Empty w ↦ if_as c.match-pop.result (Ok w.new.result) (λ x. Takes c.args.self.now c.pop.new.self (elements x))
      w.result-is (takes piece.Empty c.pop.result (elements w.new.result) c.args.self.now c.pop.new.self c.pop.ensures
      w.in-Empty.is (λ b k t h. subst (λ z. Holds b k (elements z) t) (sym w.new.ensures) h))
  | in-Nodes w ↦ if_as c.match-pop.result w.elements_of.result
      (λ x. Takes c.args.self.now c.pop.new.self (elements x)) w.result-is
      (takes_if w.elements_of.result (λ x. elements x ≡ nodes w.as_slice.result.now) elements (piece.Nodes w.in-Nodes.ids)
      c.pop.result c.args.self.now c.pop.new.self c.pop.ensures w.in-Nodes.is
      (λ x e b k t h. subst (λ z. Holds b k z t) (sym (e ∙ ap nodes w.as_slice.ensures)) h) w.elements_of.ensures)
  | in-Elements w ↦ if_as c.match-pop.result (Ok w.in-Elements.ids)
      (λ x. Takes c.args.self.now c.pop.new.self (elements x)) w.result-is
      (takes (piece.Elements w.in-Elements.ids) c.pop.result (elements w.in-Elements.ids) c.args.self.now c.pop.new.self
      c.pop.ensures w.in-Elements.is (λ b k t h. h))
]

pub unreachable-requires : goal.unreachable-requires
unreachable-requires c =
    elements_is c.pop.result (last_is sort.Elements c.args.self.now c.pop.new.self c.pop.result c.requires c.pop.ensures)
    c.in_default.not-Empty c.in_default.not-Nodes c.in_default.not-Elements
