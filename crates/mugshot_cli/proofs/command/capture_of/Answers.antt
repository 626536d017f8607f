use Rattle.std.proofs.Common.{string_bytes, arith}
use Rattle.mugshot_cli.proofs.Spelling.{behind_three, no_files}
use Rattle.mugshot_cli.proofs.command.capture_of.Goals as goal

pub returns-in_default-steps_of-clause-usage : goal.returns-in_default-steps_of-clause-usage
returns-in_default-steps_of-clause-usage c = λ usage found files. no_files (λ word. string_bytes word) c.args.words.now _ found (omega arith) (behind_three c.args.words.now) c.in_default-steps_of.ensures files
