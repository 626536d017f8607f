use Rattle.std.proofs.Common.{◌≡◌, Ok, ◌∙◌, ap, sym, subst}
use Rattle.js_tree.specs.Trees.{Holds, declarators, entries}
use Rattle.js_grammar.specs.inner.Sorts.{is_of}
use Rattle.js_grammar.specs.inner.Sorts as sort
use Rattle.js_pieces.specs.declared.pieces.Piece.TheVariants as piece
use Rattle.js_pieces.specs.Pieces.{AreNamed, Takes, sort_of}
use Rattle.js_pieces.proofs.Sorting.{are_named, entries_is, if_as, last_is, takes, takes_if}
use Rattle.js_pieces.proofs.pieces.Pieces.pop_entries.Goals as goal
use Rattle.js_pieces.proofs.pieces.Pieces.pop_entries.Goals.{in-Empty, in-AllNamed}

pub pop-requires : goal.pop-requires
pop-requires c = (sort.Entries, c.requires)

pub entries_of-requires : goal.entries_of-requires
entries_of-requires c =
    subst AreNamed (sym c.as_slice.ensures) (are_named c.in-AllNamed.all
    (ap (λ z. is_of (sort_of z) sort.Entries) (sym c.in-AllNamed.is) ∙
    last_is sort.Entries c.args.self.now c.pop.new.self c.pop.result c.requires c.pop.ensures))

pub returns : goal.returns
returns c = elim c.match-pop.branch [
  | in-Empty w ↦ if_as c.match-pop.result (Ok w.new.result) (λ x. Takes c.args.self.now c.pop.new.self (entries x))
      w.result-is (takes piece.Empty c.pop.result (entries w.new.result) c.args.self.now c.pop.new.self c.pop.ensures
      w.in-Empty.is (λ b k t h. subst (λ z. Holds b k (entries z) t) (sym w.new.ensures) h))
  | in-AllNamed w ↦ if_as c.match-pop.result w.entries_of.result
      (λ x. Takes c.args.self.now c.pop.new.self (entries x)) w.result-is
      (takes_if w.entries_of.result (λ x. entries x ≡ declarators w.as_slice.result.now) entries
      (piece.AllNamed w.in-AllNamed.all) c.pop.result c.args.self.now c.pop.new.self c.pop.ensures w.in-AllNamed.is
      (λ x e b k t h. subst (λ z. Holds b k z t) (sym (e ∙ ap declarators w.as_slice.ensures)) h) w.entries_of.ensures)
]

pub unreachable-requires : goal.unreachable-requires
unreachable-requires c =
    entries_is c.pop.result (last_is sort.Entries c.args.self.now c.pop.new.self c.pop.result c.requires c.pop.ensures)
    c.in_default.not-Empty c.in_default.not-AllNamed
