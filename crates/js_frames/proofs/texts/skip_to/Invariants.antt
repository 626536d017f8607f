-- So many texts without scripts are put.
use Rattle.std.proofs.Common.{◌≡◌, ℕ, ◌-◌, ◌≤◌, ◌++◌, None, length, replicate}
use Rattle.js_frames.specs.Arenas.{arena_of}
use Rattle.js_frames.proofs.texts.skip_to.Given as goal

abbrev pub invariant-loop-number : goal.invariant-loop-number
invariant-loop-number l = record {
  least : length l.fn.scripts.items ≤ l._number;
  skipped : l.scripts.items ≡ l.fn.scripts.items ++ replicate
      (l._number - length l.fn.scripts.items) None;
  same : (x : ℕ) → arena_of l.scripts.items x ≡ arena_of l.fn.scripts.items x;
}
