use Rattle.std.proofs.Common.{◌≡◌, ℕ, ◌<◌, length, get_or}
use Rattle.dom_tree.proofs.words.same_text.Given as goal

abbrev pub invariant-loop-index : goal.invariant-loop-index
invariant-loop-index l = record {
  long : length l.a ≡ length l.b;
  so_far : (k : ℕ) → k < l.index → get_or l.a k 0 ≡ get_or l.b k 0;
}
