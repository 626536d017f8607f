use Rattle.js_pieces.proofs.Behind.{last_to_pair, may_pair, becomes_paired}
use Rattle.js_pieces.proofs.pieces.Pieces.pair.Goals as goal

pub pop-piece-requires : goal.pop-piece-requires
pop-piece-requires c = last_to_pair c.args.self.now c.requires.0 c.requires.1

pub pair_piece-requires : goal.pair_piece-requires
pair_piece-requires c = may_pair c.pop-piece.result c.pop-piece.new.self c.args.self.now c.requires.0 c.pop-piece.ensures c.requires.1

pub returns : goal.returns
returns c = becomes_paired c.pair_piece.result c.pop-piece.result c.args.self.now c.pop-piece.new.self c.pair_piece.new.self c.pop-piece.ensures c.pair_piece.ensures
