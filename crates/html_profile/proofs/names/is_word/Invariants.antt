use Rattle.std.proofs.Common.{◌≡◌, ℕ, ◌<◌, length, get_or}
use Rattle.html_profile.proofs.names.is_word.Given as goal

abbrev pub invariant-loop-index : goal.invariant-loop-index
invariant-loop-index l = record {
  long : length l.word ≡ length l.text;
  so_far : (k : ℕ) → k < l.index → get_or l.word k 0 ≡ get_or l.text k 0;
}
