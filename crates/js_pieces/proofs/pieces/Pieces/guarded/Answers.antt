use Rattle.std.proofs.Common.{[], ◌∷◌, refl}
use Rattle.js_tree.specs.Trees.{at_last, caught}
use Rattle.js_grammar.specs.inner.Sorts as sort
use Rattle.js_pieces.proofs.Gathering.{last_fits, others_fit, tried}
use Rattle.js_pieces.proofs.pieces.Pieces.guarded.Goals as goal

pub pop_maybe_nodes-finally-requires : goal.pop_maybe_nodes-finally-requires
pop_maybe_nodes-finally-requires c = last_fits sort.Maybe_nodes (sort.Maybe_catch ∷ sort.Nodes ∷ []) c.args.self.now c.requires

pub pop_maybe_catch-catch-requires : goal.pop_maybe_catch-catch-requires
pop_maybe_catch-catch-requires c = last_fits sort.Maybe_catch (sort.Nodes ∷ []) c.pop_maybe_nodes-finally.new.self (others_fit sort.Maybe_nodes (sort.Maybe_catch ∷ sort.Nodes ∷ []) c.args.self.now c.pop_maybe_nodes-finally.new.self (at_last c.pop_maybe_nodes-finally.result) c.requires c.pop_maybe_nodes-finally.ensures)

pub pop_nodes-block-requires : goal.pop_nodes-block-requires
pop_nodes-block-requires c = last_fits sort.Nodes [] c.pop_maybe_catch-catch.new.self (others_fit sort.Maybe_catch (sort.Nodes ∷ []) c.pop_maybe_nodes-finally.new.self c.pop_maybe_catch-catch.new.self (caught c.pop_maybe_catch-catch.result) (others_fit sort.Maybe_nodes (sort.Maybe_catch ∷ sort.Nodes ∷ []) c.args.self.now c.pop_maybe_nodes-finally.new.self (at_last c.pop_maybe_nodes-finally.result) c.requires c.pop_maybe_nodes-finally.ensures) c.pop_maybe_catch-catch.ensures)

pub returns : goal.returns
returns c = record {
  is = refl;
  taken = tried c.in_ok-new.field-0.value (record {
    block = c.pop_nodes-block.result;
    catch = c.pop_maybe_catch-catch.result;
    finally = c.pop_maybe_nodes-finally.result;
  }) c.args.self.now c.pop_maybe_nodes-finally.new.self c.pop_maybe_catch-catch.new.self c.pop_nodes-block.new.self
      c.in_ok-new.ensures.ok c.pop_maybe_nodes-finally.ensures c.pop_maybe_catch-catch.ensures c.pop_nodes-block.ensures;
}
