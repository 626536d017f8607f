use Rattle.std.proofs.Common.{arith}
use Rattle.html_profile.specs.Building.{state_of}
use Rattle.html_profile.proofs.Pages.{goes_on, tree_is, not_empty, is_empty}
use Rattle.std.proofs.Common.{◌∙◌}
use Rattle.html_profile.proofs.Utf8Pieces.{piece_decodes}
use Rattle.html_profile.proofs.page.build.Goals as goal

pub take-requires-clause-piece : goal.take-requires-clause-piece
take-requires-clause-piece c = (piece_decodes c.loop-rest.rest.now c.in_ok-piece.piece c.in_ok-piece.behind.now c.loop-rest.invariant.decodes c.in_ok-piece.ensures.is).0

pub loop-rest-preserved : goal.loop-rest-preserved
loop-rest-preserved c = record {
  on = goes_on c.args.total c.loop-rest.builder.total c.args.text.now c.loop-rest.rest.now c.in_ok-piece.behind.now c.in_ok-piece.piece (state_of c.loop-rest.builder) (state_of c.take.new.self)
      c.loop-rest.invariant.on (not_empty c.loop-rest.rest.now c.loop-rest-test.ensures) c.in_ok-piece.ensures.is c.loop-rest.invariant.total c.in_ok-take.ensures.is;
  known = c.in_ok-take.ensures.known;
  decodes = (piece_decodes c.loop-rest.rest.now c.in_ok-piece.piece c.in_ok-piece.behind.now c.loop-rest.invariant.decodes c.in_ok-piece.ensures.is).1;
  words = c.in_ok-take.ensures.decodes;
  total = c.in_ok-take.ensures.total ∙ c.loop-rest.invariant.total;
  nodes = omega (arith, c.in_ok-take.ensures.nodes, c.in_ok-piece.ensures.shorter, c.loop-rest.invariant.nodes);
}

pub returns-clause-tree : goal.returns-clause-tree
returns-clause-tree c =
    tree_is c.args.total c.args.text.now c.loop-rest.rest.now (state_of c.loop-rest.builder) (state_of c.settle.new.self) c.loop-rest.invariant.on (is_empty c.loop-rest.rest.now c.loop-rest-test.ensures) c.in_ok-settle.ensures.is
