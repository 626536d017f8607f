use Rattle.std.proofs.Common.{arith}
use Rattle.html_profile.proofs.Words.{all_same}
use Rattle.html_profile.proofs.names.is_word.Goals as goal

pub returns : goal.returns
returns c = all_same c.args.word.now c.args.text.now c.loop-index.index c.loop-index.invariant.long (omega arith) c.loop-index.invariant.so_far
