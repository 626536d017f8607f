use Rattle.std.proofs.Common.{◌≡◌, ◌++◌, take}
use Rattle.std.specs.List.{flat_map}
use Rattle.mugshot_cli.specs.ThinPage.Machine.{argument_moves}
use Rattle.mugshot_cli.proofs.thin_page.turn_steps.push_arguments.Given as goal

abbrev pub invariant-loop-argument : goal.invariant-loop-argument
invariant-loop-argument l = l.moves.items ≡ l.initial.moves.items ++ flat_map argument_moves (take l.argument-index l.arguments)
