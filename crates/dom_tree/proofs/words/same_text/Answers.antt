use Rattle.std.proofs.Common.{arith}
use Rattle.dom_tree.proofs.Units.{all_same}
use Rattle.dom_tree.proofs.words.same_text.Goals as goal

pub returns : goal.returns
returns c = all_same c.args.a.now c.args.b.now c.loop-index.index c.loop-index.invariant.long (omega arith) c.loop-index.invariant.so_far
