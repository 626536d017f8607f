use Rattle.std.proofs.Common.{◌∙◌, sym, arith}
use Rattle.mugshot_cli.proofs.Spelling.{one_number}
use Rattle.mugshot_cli.proofs.command.budget_of.Goals as goal

pub returns-then-n-lt1 : goal.returns-then-n-lt1
returns-then-n-lt1 c = λ n low high is.
    let read = c.in_ok-n.ensures.some in
    let same = one_number c.args.word.now c.in_ok-n.n n (omega (arith, read.0)) high (sym c.as_bytes.ensures.value ∙ read.1) is in
    omega (arith, c.if-n-lt1.true, same)
