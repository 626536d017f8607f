use Rattle.std.proofs.Common.{◌≡◌, ◌++◌, ◌∷◌, take}
use Rattle.std.specs.List.{flat_map}
use Rattle.std.specs.Prelude.{decimal}
use Rattle.mugshot_cli.proofs.thin_page.page.spaced.Given as goal

abbrev pub invariant-loop-n : goal.invariant-loop-n
invariant-loop-n l = l.line.items ≡ l.initial.line.items ++ flat_map (λ m. 32 ∷ decimal m) (take l.n-index l.others)
