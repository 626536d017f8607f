use Rattle.std.proofs.Common.{◌≡◌, ◌++◌, drop}
use Rattle.mugshot_cli.specs.ThinPage.Machine.{values_of}
use Rattle.mugshot_cli.proofs.thin_page.page.values.Given as goal

abbrev pub invariant-loop-argument : goal.invariant-loop-argument
invariant-loop-argument l = values_of l.arguments l.answers ≡ l.numbers.items ++ values_of (drop l.argument-index l.arguments) l.left
