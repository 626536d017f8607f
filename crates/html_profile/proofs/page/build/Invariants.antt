use Rattle.std.proofs.Common.{◌≡◌, ◌+◌, ◌*◌, ◌≤◌, List, [], length, fold, vec_len, IsUtf8}
use Rattle.html_profile.specs.Tree.{step, beginning}
use Rattle.html_profile.specs.Pieces.{Reads}
use Rattle.html_profile.specs.Building.{state_of, IsKnown}
use Rattle.html_profile.specs.declared.piece.Piece.{Piece}
use Rattle.html_profile.proofs.page.build.Given as goal

-- whatever pieces follow, the page has them behind those that were taken
abbrev pub invariant-loop-rest : goal.invariant-loop-rest
invariant-loop-rest l = record {
  on : (more : List Piece) → Reads l.rest more [] → (all : List Piece) × Reads l.fn.text all [] × (fold (step l.total) beginning all ≡ fold (step l.total) (state_of l.builder) more);
  known : IsKnown l.builder;
  decodes : IsUtf8 l.rest;
  words : IsUtf8 l.builder.words.items;
  total : l.builder.total ≡ l.total;
  nodes : vec_len l.builder.nodes + 2 * length l.rest ≤ 1 + 2 * length l.fn.text;
}

abbrev pub decreases-loop-rest : goal.decreases-loop-rest
decreases-loop-rest l = length l.rest
