use Rattle.js_pieces.proofs.Behind.{last_to_add, may_add, becomes_added}
use Rattle.js_pieces.proofs.pieces.Pieces.add.Goals as goal

pub pop-piece-requires : goal.pop-piece-requires
pop-piece-requires c = last_to_add c.args.self.now c.requires.0 c.requires.1

pub add_piece-requires : goal.add_piece-requires
add_piece-requires c = may_add c.pop-piece.result c.pop-piece.new.self c.args.self.now c.requires.0 c.pop-piece.ensures c.requires.1

pub returns : goal.returns
returns c = becomes_added c.add_piece.result c.pop-piece.result c.args.self.now c.pop-piece.new.self c.add_piece.new.self c.pop-piece.ensures c.add_piece.ensures
