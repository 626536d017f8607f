use Rattle.std.proofs.Common.{◌≡◌, ◌++◌, take}
use Rattle.std.specs.List.{flat_map}
use Rattle.mugshot_cli.specs.ThinPage.Machine.{statement_moves}
use Rattle.mugshot_cli.proofs.thin_page.turn_steps.push_script.Given as goal

abbrev pub invariant-loop-statement : goal.invariant-loop-statement
invariant-loop-statement l = l.moves.items ≡ l.initial.moves.items ++ flat_map statement_moves (take l.statement-index l.statements)
