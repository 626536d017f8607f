use Rattle.std.proofs.Common.{◌≡◌, ℕ, ◌<◌, length, get_or}
use Rattle.dom_tree.proofs.words.is_word.Given as goal

abbrev pub invariant-loop-index : goal.invariant-loop-index
invariant-loop-index l = record {
  long : length l.text ≡ length l.word;
  so_far : (k : ℕ) → k < l.index → get_or l.text k 0 ≡ get_or l.word k 0;
}
