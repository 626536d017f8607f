use Rattle.js_pieces.proofs.Behind.{to_pair}
use Rattle.js_pieces.proofs.pieces.Pieces.pair_piece.Goals as goal

pub unreachable-requires : goal.unreachable-requires
unreachable-requires c =
    to_pair c.args.piece c.args.self.now c.requires
    c.in_default.not-Node c.in_default.not-Missing c.in_default.not-Empty c.in_default.not-Nodes
