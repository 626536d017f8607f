use Rattle.std.proofs.Common.{[], ◌∷◌, refl}
use Rattle.js_tree.specs.Trees.{at, perhaps}
use Rattle.js_grammar.specs.inner.Sorts as sort
use Rattle.js_pieces.proofs.Gathering.{last_fits, others_fit}
use Rattle.js_pieces.proofs.pieces.Pieces.for_loop.Goals as goal

pub pop_node-body-requires : goal.pop_node-body-requires
pop_node-body-requires c = last_fits sort.Node (sort.Maybe_node ∷ sort.Maybe_node ∷ sort.Maybe_node ∷ []) c.args.self.now c.requires

pub pop_maybe_node-update-requires : goal.pop_maybe_node-update-requires
pop_maybe_node-update-requires c = last_fits sort.Maybe_node (sort.Maybe_node ∷ sort.Maybe_node ∷ []) c.pop_node-body.new.self (others_fit sort.Node (sort.Maybe_node ∷ sort.Maybe_node ∷ sort.Maybe_node ∷ []) c.args.self.now c.pop_node-body.new.self (at c.pop_node-body.result) c.requires c.pop_node-body.ensures)

pub pop_maybe_node-test-requires : goal.pop_maybe_node-test-requires
pop_maybe_node-test-requires c = last_fits sort.Maybe_node (sort.Maybe_node ∷ []) c.pop_maybe_node-update.new.self (others_fit sort.Maybe_node (sort.Maybe_node ∷ sort.Maybe_node ∷ []) c.pop_node-body.new.self c.pop_maybe_node-update.new.self (perhaps c.pop_maybe_node-update.result) (others_fit sort.Node (sort.Maybe_node ∷ sort.Maybe_node ∷ sort.Maybe_node ∷ []) c.args.self.now c.pop_node-body.new.self (at c.pop_node-body.result) c.requires c.pop_node-body.ensures) c.pop_maybe_node-update.ensures)

pub pop_maybe_node-start-requires : goal.pop_maybe_node-start-requires
pop_maybe_node-start-requires c = last_fits sort.Maybe_node [] c.pop_maybe_node-test.new.self (others_fit sort.Maybe_node (sort.Maybe_node ∷ []) c.pop_maybe_node-update.new.self c.pop_maybe_node-test.new.self (perhaps c.pop_maybe_node-test.result) (others_fit sort.Maybe_node (sort.Maybe_node ∷ sort.Maybe_node ∷ []) c.pop_node-body.new.self c.pop_maybe_node-update.new.self (perhaps c.pop_maybe_node-update.result) (others_fit sort.Node (sort.Maybe_node ∷ sort.Maybe_node ∷ sort.Maybe_node ∷ []) c.args.self.now c.pop_node-body.new.self (at c.pop_node-body.result) c.requires c.pop_node-body.ensures) c.pop_maybe_node-update.ensures) c.pop_maybe_node-test.ensures)

pub returns : goal.returns
returns c = record { is = refl; taken = (c.pop_node-body.new.self, c.pop_node-body.ensures, (c.pop_maybe_node-update.new.self, c.pop_maybe_node-update.ensures, (c.pop_maybe_node-test.new.self, c.pop_maybe_node-test.ensures, (c.pop_maybe_node-start.new.self, c.pop_maybe_node-start.ensures, refl)))) }
