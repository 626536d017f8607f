use Rattle.std.proofs.Common.{length, ◌-◌, ◌≤◌}
use Rattle.mugshot_cli.specs.ThinPage.Reading.{IsArgument, argument_text}
use Rattle.mugshot_cli.proofs.ThinPage.Arguments.{EndsCall}
use Rattle.mugshot_cli.proofs.ThinPage.Joined.{Reached}
use Rattle.mugshot_cli.proofs.thin_page.reading.read_arguments.Given as goal

abbrev pub invariant-arguments : goal.invariant-arguments
invariant-arguments l = (length l.arguments.items ≤ 8) × Reached argument_text IsArgument 44 EndsCall l.fn.bytes l.arguments.items l.rest

abbrev pub decreases-arguments : goal.decreases-arguments
decreases-arguments l = 8 - length l.arguments.items
